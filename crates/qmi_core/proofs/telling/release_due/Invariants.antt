use Rattle.std.proofs.Common.{◌≡◌, length, Some}
use Rattle.connections.specs.Table.{Table}
use Rattle.proxy_core.specs.Meaning.{state_of}
use Rattle.qmi_state.specs.declared.client.Client.{Client}
use Rattle.qmi_state.specs.Transitions.{releases_due}
use Rattle.qmi_core.proofs.telling.release_due.Given as goal

-- what is left to be released, released, is what there was to be released, released
abbrev pub invariant-loop-after : goal.invariant-loop-after
invariant-loop-after l = (table : Table Client) → releases_due (Some l.after) (state_of table l.side) ≡ releases_due (Some l.after) (state_of table l.initial.side)

abbrev pub decreases-loop-after : goal.decreases-loop-after
decreases-loop-after l = length l.side.traffic.kept
