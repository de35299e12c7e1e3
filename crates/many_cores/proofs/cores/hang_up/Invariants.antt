use Rattle.std.proofs.Common.{◌≡◌, length}
use Rattle.proxy_solo.specs.Cores.{hung_up}
use Rattle.many_cores.proofs.cores.hang_up.Given as goal

abbrev pub invariant-loop : goal.invariant-loop
invariant-loop l = hung_up l.core ≡ hung_up l.initial.core

abbrev pub decreases-loop : goal.decreases-loop
decreases-loop l = length l.core.state.table.dropped
