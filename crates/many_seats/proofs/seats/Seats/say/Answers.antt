use Rattle.std.proofs.Common.{◌≡◌, ◌<◌, List, length, set, ap, sym, subst, arith, None}
use Rattle.many_history.specs.Many.{Seat}
use Rattle.many_seats.specs.Seats.{Seating, chosen_in, one_undecided, IsSeat}
use Rattle.many_seats.proofs.Placed.{undecided_set}
use Rattle.many_seats.proofs.Order.{changed_in_order}
use Rattle.many_seats.proofs.Names.{still_have, is_one}
use Rattle.many_seats.proofs.seats.Seats.say.Goals as goal

pub invariant_of-self : goal.invariant_of-self
invariant_of-self c =
    let seats : List Seat = c.self.inside.present.items in
    let seat : Seat = c.index_mut-seat.result.now in
    let within : c.args.place < length seats = subst (λ (s : Seating). c.args.place < length s.seats) (sym c.self.view_is) c.requires.within in
    let none : chosen_in seat.place ≡ None = subst (λ (s : Seating). (k : Seat) → IsSeat k s.seats c.args.place → chosen_in k.place ≡ None) (sym c.self.view_is) c.requires.undecided seat c.index_mut-seat.ensures.value in
    let one = is_one seat.place none in
    let new : Seat = c.say.new.self in
    let same = undecided_set seats c.args.place seat new within c.index_mut-seat.ensures.value in
    let later = ap (λ (s : Seat). one_undecided s.place) c.say.ensures in
    record {
      count = c.self.invariant.count;
      few = c.self.invariant.few;
      present_room = c.self.invariant.present_room;
      dropped_room = c.self.invariant.dropped_room;
      free_room = c.self.invariant.free_room;
      names = still_have c.self.inside.names.items seats (set seats c.args.place new) c.self.inside.greatest c.self.inside.greatest (omega (arith, one, same, later)) c.self.invariant.names;
      order = changed_in_order seats c.self.inside.greatest c.self.invariant.order c.args.place seat new c.index_mut-seat.ensures.value (ap (λ (s : Seat). s.conn) c.say.ensures);
      fits = c.self.invariant.fits;
    }
