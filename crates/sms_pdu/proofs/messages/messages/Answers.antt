use Rattle.std.proofs.Common.{◌++◌, ◌∙◌, ℕ, List, ap, arith}
use Rattle.sms_pdu.specs.Parts.{data_of, header}
use Rattle.sms_pdu.proofs.Sending.{AreMade-after, AreMade-same, place-lt}
use Rattle.sms_pdu.proofs.messages.messages.Goals as goal
use Rattle.sms_pdu.proofs.messages.messages.Goals.{then-sending-size+in_ok-message+in_ok-push, else-sending-size}

pub overflow_add-place : goal.overflow_add-place
overflow_add-place c =
    let few = place-lt c.args.sending.now.front.items _ _ c.args.sending.now.reference c.args.sending.now.total _ _ _ _ _ c.size_of-more.result _ _ c.loop-char.invariant c.loop-char-test.true c.char-item.is c.size_of-more.ensures.size c.if-sending-size.true in
    omega (arith, few)

pub loop-char-preserved : goal.loop-char-preserved
loop-char-preserved c =
    let now = c.loop-char.invariant in
    let pushed = c.in_ok-extend_from_slice.ensures.items in
    let front = c.args.sending.now.front.items in
    let reference = c.args.sending.now.reference in
    let total = c.args.sending.now.total in
    elim c.if-sending-size.branch [
      | then-sending-size+in_ok-message+in_ok-push w ↦
          AreMade-after front _ _ reference total _ _ _ _ _ c.size_of-more.result _ _ now c.loop-char-test.true c.char-item.is c.size_of-more.ensures.size w.if-sending-size.true (omega (arith, c.size_of-more.ensures.small, c.requires.least))
          _ _ c.if-sending-size.piece.items _ w.in_ok-message.field-0 _ (w.in_ok-message.ensures ∙ ap (λ (piece : List ℕ). front ++ data_of c.args.sending.now.coded (header reference total c.loop-char.place) piece) w.deref.ensures.value) (rw w.list-is w.in_ok-push.ensures.items) (rw w.piece-is w.clear.ensures.items) w.size-is w.place-is pushed
      | else-sending-size w ↦
          rw (pushed, w.list-is, w.piece-is, w.size-is, w.place-is)
          (AreMade-same front _ _ reference total _ _ _ _ _ c.size_of-more.result _ _ now c.loop-char-test.true c.char-item.is c.size_of-more.ensures.size w.if-sending-size.false)
    ]
