use Rattle.std.proofs.Common.{arith}
use Rattle.gsm_text.proofs.Digits.{code_at-is}
use Rattle.gsm_text.proofs.packing.code_at.Goals as goal

pub returns : goal.returns
returns c = rw (c.octet_at-low.ensures.octet, c.octet_at-high.ensures.octet) (code_at-is c.args.bytes.now c.args.bit (λ k. omega (arith, c.type_inv.bytes k)))
