use Rattle.std.proofs.Common.{◌≡◌, ◌≤◌, map, take, length, vec_capacity}
use Rattle.many_seats.proofs.paths.Paths.copy_of.Given as goal

abbrev pub invariant-loop-path : goal.invariant-loop-path
invariant-loop-path l = record {
  copied : l.copies.items ≡ map (λ path. path.now) (take l.path-index l.paths);
  capacity : length l.paths ≤ vec_capacity l.copies;
}
