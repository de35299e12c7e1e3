use Rattle.std.proofs.Common.{◌∙◌}
use Rattle.sms_pdu.proofs.Joins.{same_chars}
use Rattle.sms_pdu.proofs.texts.same_text.Goals as goal

pub returns : goal.returns
returns c = rw (c.as_str.ensures, c.as_str-2.ensures) at c.eq.ensures ∙ same_chars c.args.one.now c.args.other.now
