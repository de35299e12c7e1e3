use Rattle.std.proofs.Common.{sym, ◌∙◌, map-id}
use Rattle.std.proofs.lemmas.Iterator.{YieldsList-from_chars}
use Rattle.std.proofs.lemmas.Iterator.Consumers.{YieldsList-end}
use Rattle.std.proofs.lemmas.Str.{chars_from_encodes}
use Rattle.sms_pdu.proofs.Returning.{spelled}
use Rattle.sms_pdu.proofs.messages.chars_of.Goals as goal

pub returns-clause-chars : goal.returns-clause-chars
returns-clause-chars c =
    let chars = chars_from_encodes c.args.text.now _ c.as_str.utf8 (sym c.as_str.ensures) in
    let yielded = YieldsList-end (YieldsList-from_chars c.as_str.result.now c.as_str.utf8 cc) c.loop-char.yielded _ c.loop-char.yielded_by _ _ c.in-None.is c.next.ensures.steps in
    c.loop-char.invariant ∙ sym (map-id _) ∙ yielded.0 ∙ sym chars

pub returns-clause-scalars : goal.returns-clause-scalars
returns-clause-scalars c = spelled c.args.text.now _ c.as_str.utf8 c.as_str.ensures

pub returns-in_err-extend_from_slice-clause-scalars : goal.returns-in_err-extend_from_slice-clause-scalars
returns-in_err-extend_from_slice-clause-scalars c = spelled c.args.text.now _ c.as_str.utf8 c.as_str.ensures

pub returns-in_err-chars-clause-scalars : goal.returns-in_err-chars-clause-scalars
returns-in_err-chars-clause-scalars c = spelled c.args.text.now _ c.as_str.utf8 c.as_str.ensures
