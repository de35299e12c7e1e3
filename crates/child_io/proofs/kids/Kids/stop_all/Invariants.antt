use Rattle.std.proofs.Common.{take}
use Rattle.kit_io.specs.Causes.{HasCause}
use Rattle.child_io.proofs.Stops.{Tried}
use Rattle.child_io.proofs.kids.Kids.stop_all.Given as goal

-- those before this one were tried
abbrev pub invariant-loop-child : goal.invariant-loop-child
invariant-loop-child g l = record {
  tried : Tried (take l.child-index l.child-items) l.after (g.P.Spawner.calls l.initial.spawner) l.result (g.P.Spawner.calls l.spawner);
  cause : HasCause (g.P.Spawner.faults l.initial.spawner) (g.P.Spawner.faults l.spawner) l.result;
}
