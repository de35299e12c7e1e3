use Rattle.std.proofs.Common.{ℕ, List, take, ap, ◌∙◌}
use Rattle.qmi_values.specs.Numbers.{little_endian}
use Rattle.qmi_values.proofs.Digits.{unsigned_back}
use Rattle.qmi_values.proofs.encoding.write_unsigned.Goals as goal

pub returns-then-unsigned_of-number-clause-err : goal.returns-then-unsigned_of-number-clause-err
returns-then-unsigned_of-number-clause-err c =
    λ bytes spelled.
    c.if-unsigned_of-number.true
    (
    c.unsigned_of.ensures.is
    ∙ ap (λ (n : ℕ). little_endian (take n c.to_le_bytes-bytes.result)) c.from.ensures
    ∙ ap (λ (l : List ℕ). little_endian (take c.args.size l)) c.to_le_bytes-bytes.ensures
    ∙ unsigned_back c.args.size c.args.number bytes c.requires.1 spelled
    )
