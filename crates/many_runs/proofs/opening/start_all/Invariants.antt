use Rattle.std.proofs.Common.{◌≤◌, ◌*◌, true, map, take, length}
use Rattle.modem_routes.specs.Reaching.{StartsBy}
use Rattle.modem_routes.specs.Routes.{words_in}
use Rattle.many_runs.specs.Running.{StartsEach}
use Rattle.many_runs.proofs.opening.start_all.Given as goal

abbrev pub invariant-loop-node : goal.invariant-loop-node
invariant-loop-node g l = record {
  started : StartsBy (StartsEach (map words_in (take l.node-index l.pumps)) true) (g.P.Spawner.calls l.initial.spawner) l.kids (g.P.Spawner.calls l.spawner);
  few : length l.kids ≤ 2 * l.node-index;
  later : g.P.Spawner.faults l.initial.spawner ≤ g.P.Spawner.faults l.spawner;
}
