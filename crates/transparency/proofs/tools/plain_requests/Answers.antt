use Rattle.std.proofs.Common.{◌∙◌, sym}
use Rattle.transparency.proofs.NoValue.{adds, passes}
use Rattle.transparency.proofs.tools.plain_requests.Goals as goal
use Rattle.transparency.proofs.tools.plain_requests.Goals.{in-Some+in_ok-push, in_default}

pub loop-command-preserved : goal.loop-command-preserved
loop-command-preserved g c =
    let line = g.C.PlainCommand.line in
    let command = c.command-item.result in
    elim c.match-plain_request.branch [
      | in-Some+in_ok-push w ↦ rw (w.requests-is, w.in_ok-push.ensures.items)
          (adds line c.args.commands.now c.loop-command.command-index command c.loop-command-test.true c.command-item.is c.loop-command.requests.items _ c.loop-command.invariant (sym c.plain_request.ensures ∙ w.in-Some.is) w.option_name-option.ensures)
      | in_default w ↦ rw w.requests-is
          (passes line c.args.commands.now c.loop-command.command-index command c.loop-command-test.true c.command-item.is c.loop-command.requests.items c.loop-command.invariant (sym c.plain_request.ensures ∙ w.in_default.is))
    ]
