use Rattle.std.proofs.Common.{arith}
use Rattle.gsm_text.proofs.Tables.{own_code}
use Rattle.gsm_text.proofs.codes.code_of.Goals as goal

pub returns-then-number-char : goal.returns-then-number-char
returns-then-number-char c = own_code c.from-number.result c.args.char (omega arith) c.if-number-lt128.true (λ e. omega arith) (omega arith)
