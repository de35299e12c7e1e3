use Rattle.std.proofs.Common.{◌≡◌, ℕ, ℤ, w64, to_z, of_z, List, length, take, ap, ◌∙◌}
use Rattle.std.proofs.lemmas.Int.{to_z-of_z}
use Rattle.std.specs.Int.{to_le_bytes}
use Rattle.qmi_values.specs.Numbers.{little_endian, twos_complement}
use Rattle.qmi_values.proofs.Digits.{signed_back}
use Rattle.qmi_values.proofs.encoding.write_signed.Goals as goal

pub returns-then-signed_of-number-clause-err : goal.returns-then-signed_of-number-clause-err
returns-then-signed_of-number-clause-err c =
    λ bytes spelled.
    let number : to_z w64 (of_z w64 c.args.number) ≡ c.args.number = to_z-of_z w64 c.args.number c.ranges.number in
    c.if-signed_of-number.true
    (ap (of_z w64) (
    c.signed_of.ensures.is
    ∙ ap (λ (n : ℕ). twos_complement (length (take n c.to_le_bytes-bytes.result)) (little_endian (take n c.to_le_bytes-bytes.result))) c.from.ensures
    ∙ ap (λ (l : List ℕ). twos_complement (length (take c.args.size l)) (little_endian (take c.args.size l))) c.to_le_bytes-bytes.ensures
    ∙ ap (λ (z : ℤ). twos_complement (length (take c.args.size (to_le_bytes w64 (of_z w64 z)))) (little_endian (take c.args.size (to_le_bytes w64 (of_z w64 z))))) number
    ∙ signed_back c.args.size c.args.number bytes c.requires spelled
    ))
