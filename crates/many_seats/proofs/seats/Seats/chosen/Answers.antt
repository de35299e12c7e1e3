use Rattle.std.proofs.Common.{List, ap, sym, ◌∙◌}
use Rattle.many_history.specs.Many.{Seat, place_of}
use Rattle.many_history.proofs.There.{place_of_front}
use Rattle.many_seats.specs.Seats.{Seating, chosen_by}
use Rattle.many_seats.proofs.Placed.{place_is, none_is, behind}
use Rattle.many_seats.proofs.Names.{first_of}
use Rattle.many_seats.proofs.seats.Seats.chosen.Goals as goal

pub returns-in-Some : goal.returns-in-Some
returns-in-Some c =
    let seats : List Seat = c.args.self.now.seats in
    let found = first_of seats c.in-Some.place c.in-Some.ensures.within in
    c.chosen_at.ensures found.0 found.1
    ∙ ap chosen_by (sym (place_of_front c.args.conn seats c.args.self.now.dropped (found.0).place (place_is c.args.conn seats c.in-Some.place c.in-Some.ensures.place found.0 found.1)))

pub returns-in-None : goal.returns-in-None
returns-in-None c =
    let seats : List Seat = c.args.self.now.seats in
    c.chosen_of.ensures
    ∙ ap (λ l. chosen_by (place_of c.args.conn l)) c.deref.ensures.value
    ∙ ap (λ (s : Seating). chosen_by (place_of c.args.conn s.dropped)) c.self.view_is
    ∙ ap chosen_by (sym (behind c.args.conn seats c.args.self.now.dropped (none_is c.args.conn seats c.in-None.ensures.place)))
