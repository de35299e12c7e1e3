use Rattle.std.proofs.Common.{◌≡◌, ◌≤◌, map, take, length, vec_capacity}
use Rattle.std.specs.Str.{encode_utf8_all}
use Rattle.many_served.proofs.serving.lend_all.Given as goal

abbrev pub invariant-loop-path : goal.invariant-loop-path
invariant-loop-path l = record {
  lent : map (λ text. text.now) l.lent.items ≡ map encode_utf8_all (take l.path-index l.paths);
  capacity : length l.paths ≤ vec_capacity l.lent;
}
