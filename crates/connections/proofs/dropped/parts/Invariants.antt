use Rattle.std.proofs.Common.{◌≡◌, drop}
use Rattle.connections.specs.Table.{left_for}
use Rattle.connections.proofs.dropped.parts.Given as goal

abbrev pub invariant-loop-dropped : goal.invariant-loop-dropped
invariant-loop-dropped g l = left_for l.name l.list ≡ left_for l.name (drop l.dropped-index l.list)
