use Rattle.std.proofs.Common.{ℕ, List, ◌++◌, ◌∙◌, ap, sym}
use Rattle.sms_pdu.specs.Reading.{pdu}
use Rattle.sms_print.specs.Printed.{message_text, read_or_none}
use Rattle.sms_print.proofs.Growing.{none_more, read_more, text_more}
use Rattle.sms_print.proofs.messages.push_messages.Goals as goal
use Rattle.sms_print.proofs.messages.push_messages.Goals.{in-Some+in_ok-push, in_default}

pub loop-body-preserved : goal.loop-body-preserved
loop-body-preserved c =
    let body = c.body-item.result in
    let added = c.in_ok-pdu.ensures.text ∙ ap (λ (bytes : List ℕ). c.loop-body.text ++ message_text bytes) c.as_slice.ensures in
    let text = text_more c.args.bodies.now c.loop-body.body-index body c.loop-body-test.true c.body-item.is c.args.text.now c.loop-body.text _ c.loop-body.invariant.0 added in
    let told = c.in_ok-pdu.ensures.read ∙ ap (λ (bytes : List ℕ). read_or_none (pdu bytes)) c.as_slice.ensures in
    elim c.match-branch-2.branch [
      | in-Some+in_ok-push w ↦ rw w.pdus-is
          (text, read_more c.args.bodies.now c.loop-body.body-index body c.loop-body-test.true c.body-item.is w.in-Some.pdu (sym w.in-Some.is ∙ told) _ _ c.loop-body.invariant.1 w.in_ok-push.ensures.items)
      | in_default w ↦ rw w.pdus-is (text, none_more c.args.bodies.now c.loop-body.body-index body c.loop-body-test.true c.body-item.is (sym w.in_default.is ∙ told) _ c.loop-body.invariant.1)
    ]
