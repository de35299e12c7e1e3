use Rattle.std.proofs.Common.{subst, sym, arith, List}
use Rattle.many_history.specs.Many.{Seat}
use Rattle.many_seats.specs.Seats.{HaveNames, AreInOrder}
use Rattle.many_seats.proofs.Order.{none_in_order}
use Rattle.many_seats.proofs.Names.{zeros_have}
use Rattle.many_seats.proofs.seats.Seats.open.Goals as goal

pub invariant_of-result : goal.invariant_of-result
invariant_of-result c = record {
  count = omega (arith, c.in_ok-with_capacity.ensures.len, c.in_ok-open_all.ensures.count);
  few = omega (arith, c.in_ok-with_capacity.ensures.len, c.in_ok-with_capacity-2.ensures.len);
  present_room = c.in_ok-with_capacity.ensures.capacity;
  dropped_room = c.in_ok-with_capacity-2.ensures.capacity;
  free_room = c.in_ok-open_all.ensures.capacity;
  names = subst (λ (l : List Seat). HaveNames c.in_ok-zeros.field-0.items l 0) (sym c.in_ok-with_capacity.ensures.items) (zeros_have c.in_ok-zeros.field-0.items c.in_ok-zeros.ensures.zeros);
  order = subst (λ (l : List Seat). AreInOrder l 0) (sym c.in_ok-with_capacity.ensures.items) none_in_order;
  fits = omega arith;
}
