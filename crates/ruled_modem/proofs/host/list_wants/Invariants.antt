use Rattle.std.proofs.Common.{◌≡◌, length}
use Rattle.kit_bytes.specs.Indications.{wants}
use Rattle.ruled_modem.proofs.host.list_wants.Given as goal

abbrev pub invariant-events : goal.invariant-events
invariant-events l = wants l.events l.service l.command ≡ wants l.initial.events l.service l.command

abbrev pub decreases-events : goal.decreases-events
decreases-events l = length l.events
