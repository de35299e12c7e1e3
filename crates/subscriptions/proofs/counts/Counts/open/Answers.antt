use Rattle.std.proofs.Common.{◌≡◌, [], ap, sym, subst, arith}
use Rattle.subscriptions.specs.Counts.{AreCounts, total}
use Rattle.subscriptions.proofs.Counting.{none_right}
use Rattle.subscriptions.proofs.counts.Counts.open.Goals as goal

pub invariant_of-result : goal.invariant_of-result
invariant_of-result c =
    let none : c.in_ok-with_capacity.field-0.items ≡ [] = c.in_ok-with_capacity.ensures.items in
    record {
      counts = subst AreCounts (sym none) none_right;
      few = omega (arith, ap total none);
      room = omega (arith, c.in_ok-with_capacity.ensures.capacity);
    }
