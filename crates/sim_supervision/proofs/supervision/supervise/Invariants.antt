use Rattle.std.proofs.Common.{◌≡◌, ◌+◌, ◌-◌, ◌≤◌, map, string_bytes}
use Rattle.sim_supervision.proofs.Again.{HasRun}
use Rattle.sim_supervision.proofs.supervision.supervise.Given as goal

abbrev pub invariant-loop : goal.invariant-loop
invariant-loop g l = record {
  run : HasRun (map string_bytes l.initial.words) (l.counter - 1) (g.P.Spawner.calls l.initial.spawner) (g.P.Spawner.calls l.spawner);
  begun : 1 ≤ l.counter;
  again : l.counter - 1 ≤ l.most - 1;
  later : g.P.Spawner.faults l.initial.spawner ≤ g.P.Spawner.faults l.spawner;
}
