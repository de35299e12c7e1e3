use Rattle.std.proofs.Common.{◌≡◌, length}
use Rattle.many_history.specs.Many.{in_pieces}
use Rattle.many_cores.specs.Cores.{said}
use Rattle.many_cores.proofs.cores.say.Given as goal

abbrev pub invariant-loop-rest : goal.invariant-loop-rest
invariant-loop-rest l = said l.name (in_pieces l.rest) l.core ≡ said l.name (in_pieces l.initial.rest) l.initial.core

abbrev pub decreases-loop-rest : goal.decreases-loop-rest
decreases-loop-rest l = length l.rest
