use Rattle.std.proofs.Common.{◌≡◌, ◌∙◌}
use Rattle.mbim_frame.specs.Bodies.{command_text}
use Rattle.mbim_session.proofs.Steps.{command_text-is}
use Rattle.mbim_session.proofs.message.command_body.Goals as goal

pub returns-clause-body : goal.returns-clause-body
returns-clause-body c =
    let command = c.in_ok-command in
    let written : c.extend_from_slices.new.self ≡ command_text (record { uuid = command.command.uuid; cid = command.command.cid; set = command.command.set }) command.command.buffer =
    rw (c.new-body.ensures, c.bytes.ensures, c.as_slice-buffer.ensures) at c.in_ok-extend_from_slices.ensures.ok in
    written ∙ command_text-is c.args.request.now command.ensures.uuid command.ensures.cid command.ensures.set command.ensures.buffer
