use Rattle.std.proofs.Common.{◌≡◌, ◌<◌, List, length, ap, sym, ◌∙◌, subst, arith}
use Rattle.many_history.specs.Many.{Seat}
use Rattle.many_seats.specs.Seats.{Seating, HaveNames, AreInOrder}
use Rattle.many_seats.proofs.Order.{joined_in_order, refused_in_order}
use Rattle.many_seats.proofs.Names.{still_have, joined_have}
use Rattle.many_seats.proofs.seats.Seats.join.Goals as goal

pub invariant_of-self : goal.invariant_of-self
invariant_of-self c =
    let newer : c.self.inside.greatest < c.args.conn = subst (λ (s : Seating). s.greatest < c.args.conn) (sym c.self.view_is) c.requires.newer in
    let none : length c.self.inside.dropped.items ≡ 0 = ap length (ap (λ (s : Seating). s.dropped) c.self.view_is ∙ c.requires.hung_up) in
    record {
      count = omega (arith, c.self.invariant.count, c.in-Some.ensures.cases, c.push_reserved.ensures.len);
      few = omega (arith, none, c.self.inside.dropped.ok, c.self.invariant.count, c.in-Some.ensures.cases, c.push_reserved.ensures.len);
      present_room = omega (arith, c.self.invariant.present_room, c.push_reserved.ensures.capacity);
      dropped_room = c.self.invariant.dropped_room;
      free_room = omega (arith, c.self.invariant.free_room, c.pop.ensures.capacity);
      names = subst (λ (l : List Seat). HaveNames c.self.inside.names.items l c.args.conn) (sym c.push_reserved.ensures.items) (joined_have c.self.inside.names.items c.self.inside.present.items c.begin.result c.self.inside.greatest c.args.conn newer c.self.invariant.names);
      order =
          subst (λ (l : List Seat). AreInOrder l c.args.conn) (sym c.push_reserved.ensures.items)
          (joined_in_order c.self.inside.present.items c.self.inside.greatest c.self.invariant.order c.begin.result c.args.conn newer (ap (λ (s : Seat). s.conn) c.begin.ensures));
      fits = omega (arith, c.ranges.conn.fits);
    }

pub invariant_of-self-in-None : goal.invariant_of-self-in-None
invariant_of-self-in-None c =
    let newer : c.self.inside.greatest < c.args.conn = subst (λ (s : Seating). s.greatest < c.args.conn) (sym c.self.view_is) c.requires.newer in
    let none : length c.self.inside.dropped.items ≡ 0 = ap length (ap (λ (s : Seating). s.dropped) c.self.view_is ∙ c.requires.hung_up) in
    record {
      count = omega (arith, c.self.invariant.count, c.in-None.ensures.cases);
      few = omega (arith, none, c.self.inside.dropped.ok, c.self.invariant.count, c.push_reserved-in-None.ensures.len);
      present_room = c.self.invariant.present_room;
      dropped_room = omega (arith, c.self.invariant.dropped_room, c.push_reserved-in-None.ensures.capacity);
      free_room = omega (arith, c.self.invariant.free_room, c.pop.ensures.capacity);
      names = still_have c.self.inside.names.items c.self.inside.present.items c.self.inside.present.items c.self.inside.greatest c.args.conn (omega (arith, newer)) c.self.invariant.names;
      order = refused_in_order c.self.inside.present.items c.self.inside.greatest c.self.invariant.order c.args.conn newer;
      fits = omega (arith, c.ranges.conn.fits);
    }
