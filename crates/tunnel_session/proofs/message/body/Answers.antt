use Rattle.std.proofs.Common.{◌≡◌, ◌++◌, ℕ, ◌+◌, List, length, ◌∙◌, ap, arith}
use Rattle.std.proofs.lemmas.List.{length-append}
use Rattle.mbim_services.specs.declared.sent.Command.{Command}
use Rattle.mbim_frame.specs.Bodies.{command_head_text}
use Rattle.tunnel_session.specs.Requests.{head}
use Rattle.tunnel_session.proofs.message.body.Goals as goal

pub returns-clause-body : goal.returns-clause-body
returns-clause-body c =
    rw (c.new-body.ensures, c.bytes.ensures, c.as_slice.ensures) at c.in_ok-extend_from_slices.ensures.ok
    ∙ ap (λ (w : Command). command_head_text (record { uuid = w.uuid; cid = w.cid; set = w.set }) (length c.args.message.now) ++ w.buffer) c.in_ok-command.ensures

pub returns-clause-short : goal.returns-clause-short
returns-clause-short c =
    let message : List ℕ = c.args.message.now in
    let front : List ℕ = command_head_text head (length message) in
    let is : length c.extend_from_slices.new.self ≡ 28 + length message = ap length (returns-clause-body c) ∙ length-append front message in
    omega (arith, is, c.if-message-gt-LONGEST_MESSAGE.false)
