use Rattle.std.proofs.Common.{◌≡◌}
use Rattle.std.specs.Vec.Iter.{into_iter_items}
use Rattle.sim_serving.specs.Hearing.{all_passed}
use Rattle.sim_serving.proofs.replies.pass_all.Given as goal

-- what is left to take in, taken in, is all of it taken in
abbrev pub invariant-loop-one : goal.invariant-loop-one
invariant-loop-one l =
    (goal.iterator-loop-one).can_next l.one-iterator × (goal.iterator-loop-one).is_finite l.one-iterator
    × (all_passed (into_iter_items l.one-iterator) l.replies ≡ all_passed l.fn.late.items l.fn.replies)
