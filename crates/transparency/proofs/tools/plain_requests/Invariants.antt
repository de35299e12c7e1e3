use Rattle.std.proofs.Common.{◌≡◌, map, take}
use Rattle.transparency.specs.Lines.{named_view}
use Rattle.transparency.specs.Tools.{plain_requests}
use Rattle.transparency.proofs.tools.plain_requests.Given as goal

abbrev pub invariant-loop-command : goal.invariant-loop-command
invariant-loop-command g l = map named_view l.requests.items ≡ plain_requests g.C.PlainCommand.line (take l.command-index l.commands)
