use Rattle.std.proofs.Common.{ℕ, List, length, ◌==◌, ◌∙◌, ap, sym, append-nil}
use Rattle.sms_print.proofs.Computed.{no_chars}
use Rattle.sms_print.proofs.pdu.push_time.Goals as goal

pub returns-then-is_empty : goal.returns-then-is_empty
returns-then-is_empty c =
    let none = no_chars c.args.time.now (ap (λ (l : List ℕ). length l == 0) (sym c.as_str.ensures) ∙ sym c.is_empty.ensures ∙ c.if-is_empty.true) in
    rw none (sym (append-nil c.args.text.now))
