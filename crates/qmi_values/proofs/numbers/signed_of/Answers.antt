use Rattle.std.proofs.Common.{arith, rules, w64, to_z, of_z, SFits, ◌∙◌}
use Rattle.std.proofs.lemmas.Int.{to_z-of_z}
use Rattle.qmi_values.proofs.Digits.{read_signed}
use Rattle.qmi_values.proofs.numbers.signed_of.Goals as goal

pub returns : goal.returns
returns c =
    let fits : SFits w64 c.read_int.result = search rules in
    read_signed c.args.bytes.now (to_z w64 (of_z w64 c.read_int.result)) (λ k. omega (arith, c.type_inv.bytes k)) (to_z-of_z w64 c.read_int.result fits ∙ c.read_int.ensures)
