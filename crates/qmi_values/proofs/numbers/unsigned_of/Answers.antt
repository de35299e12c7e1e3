use Rattle.std.proofs.Common.{arith}
use Rattle.qmi_values.proofs.Digits.{read_unsigned}
use Rattle.qmi_values.proofs.numbers.unsigned_of.Goals as goal

pub returns : goal.returns
returns c = read_unsigned c.args.bytes.now c.read_uint.result (λ k. omega (arith, c.type_inv.bytes k)) c.read_uint.ensures
