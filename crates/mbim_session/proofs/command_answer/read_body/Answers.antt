use Rattle.std.proofs.Common.{inr, refl, sym, ◌∙◌, ap}
use Rattle.mbim_frame.specs.declared.bodies.DoneHead.{DoneHead}
use Rattle.mbim_frame.specs.Bodies.{is_done}
use Rattle.mbim_session.proofs.Steps.{some_if}
use Rattle.mbim_session.proofs.command_answer.read_body.Goals as goal

pub returns-in-Err-Unread : goal.returns-in-Err-Unread
returns-in-Err-Unread c =
    let head = some_if (is_done c.args.body.now) (sym c.read.ensures ∙ c.in-Some.is) in
    let said = rw c.in-Err-Unread.field-0-is at c.in-Err-Unread.ensures.says in
    (refl, inr (sym (ap (λ (h : DoneHead). h.status) head) ∙ said.0, rw c.buffer_in.ensures at said.1))
