use Rattle.std.proofs.Common.{◌≡◌, ◌≤◌, map, take, length, vec_capacity, []}
use Rattle.qmi_many_state.specs.Core.{opened_for}
use Rattle.many_cores.proofs.cores.Cores.open.Given as goal

abbrev pub invariant-loop-path : goal.invariant-loop-path
invariant-loop-path l = record {
  opened : l.cores.items ≡ map (λ path. opened_for [] l.limits.time l.limits.release path.now) (take l.path-index l.paths);
  capacity : length l.paths ≤ vec_capacity l.cores;
}
