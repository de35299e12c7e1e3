use Rattle.std.proofs.Common.{◌≡◌, ◌==◌, List, position, ap, sym, ◌∙◌, subst, Option, Some, None}
use Rattle.outbox.specs.Fronts.{IsFrontOf}
use Rattle.qmi_state.specs.Transitions.{qmi_handlers}
use Rattle.many_history.specs.Many.{Seat, Place, place_of}
use Rattle.many_state.specs.Core.{queue_at}
use Rattle.many_seats.specs.Seats.{IsSeat}
use Rattle.many_seats.proofs.Names.{first_of}
use Rattle.many_seats.proofs.Placed.{none_is, place_is}
use Rattle.many_core.specs.Core.{ManyCore}
use Rattle.many_core.proofs.Waits.{no_bytes_wait}
use Rattle.many_core.proofs.many.ManyCore.queued_there.Goals as goal

-- somebody has the name
pub returns-in-Some : goal.returns-in-Some
returns-in-Some c =
    let seats : List Seat = c.self.inside.seats.seats in
    let found = first_of seats c.in-Some.place c.in-Some.ensures.within in
    let named : place_of c.args.conn seats ≡ Some (found.0).place = place_is c.args.conn seats c.in-Some.place c.in-Some.ensures.place found.0 found.1 in
    let place : place_of c.args.conn c.args.self.now.core.seats ≡ Some (found.0).place = subst (λ (v : ManyCore). place_of c.args.conn v.core.seats ≡ Some (found.0).place) c.self.view_is named in
    let here : IsSeat found.0 c.args.self.now.core.seats c.in-Some.place = subst (λ (v : ManyCore). IsSeat found.0 v.core.seats c.in-Some.place) c.self.view_is found.1 in
    subst (λ (o : Option Place). IsFrontOf c.queued_at.result.now (queue_at qmi_handlers c.args.self.now.core.cores o)) (sym place) (c.queued_at.ensures found.0 here)

-- nobody has it
pub returns-in-None : goal.returns-in-None
returns-in-None c =
    let at : place_of c.args.conn c.args.self.now.core.seats ≡ None =
    none_is c.args.conn c.args.self.now.core.seats (c.in-None.ensures.place ∙ ap (λ (v : ManyCore). position (λ (seat : Seat). seat.conn == c.args.conn) v.core.seats) c.self.view_is)
    in
    no_bytes_wait (queue_at qmi_handlers c.args.self.now.core.cores (place_of c.args.conn c.args.self.now.core.seats)) (ap (queue_at qmi_handlers c.args.self.now.core.cores) at)
