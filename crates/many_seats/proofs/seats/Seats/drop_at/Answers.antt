use Rattle.std.proofs.Common.{List, sym, subst, arith}
use Rattle.many_history.specs.Many.{Seat}
use Rattle.many_seats.specs.Seats.{HaveNames, AreInOrder}
use Rattle.many_seats.proofs.Order.{removed_in_order}
use Rattle.many_seats.proofs.Names.{removed_have}
use Rattle.many_seats.proofs.seats.Seats.drop_at.Goals as goal

pub invariant_of-self : goal.invariant_of-self
invariant_of-self c = record {
  count = omega (arith, c.self.invariant.count, c.remove-seat.ensures.len, c.push_reserved-2.ensures.len);
  few = omega (arith, c.self.invariant.few, c.remove-seat.ensures.len, c.push_reserved.ensures.len);
  present_room = omega (arith, c.self.invariant.present_room, c.remove-seat.ensures.capacity);
  dropped_room = omega (arith, c.self.invariant.dropped_room, c.push_reserved.ensures.capacity);
  free_room = omega (arith, c.self.invariant.free_room, c.push_reserved-2.ensures.capacity);
  names = subst (λ (l : List Seat). HaveNames c.self.inside.names.items l c.self.inside.greatest) (sym c.remove-seat.ensures.items) (removed_have c.self.inside.names.items c.self.inside.present.items c.self.inside.greatest c.args.place c.self.invariant.names);
  order = subst (λ (l : List Seat). AreInOrder l c.self.inside.greatest) (sym c.remove-seat.ensures.items) (removed_in_order c.self.inside.present.items c.self.inside.greatest c.self.invariant.order c.args.place);
  fits = c.self.invariant.fits;
}
