use Rattle.std.proofs.Common.{◌≡◌, ◌<◌, ◌≤◌, ◌==◌, List, length, position, ap, sym, ◌∙◌, subst, Option, Some, None}
use Rattle.qmi_state.specs.Core.{QmiCore}
use Rattle.qmi_state.specs.Transitions.{qmi_handlers}
use Rattle.many_history.specs.Many.{Seat}
use Rattle.many_state.specs.Core.{queue_under}
use Rattle.many_seats.specs.declared.chosen.Chosen.{Chosen}
use Rattle.many_seats.specs.Seats.{IsSeat, chosen_in}
use Rattle.many_cores.proofs.Places.{got_at}
use Rattle.many_core.specs.Core.{ManyCore, with_cores}
use Rattle.many_core.proofs.Meeting.{value}
use Rattle.many_core.proofs.Here.{its_device, no_piece, no_piece_moves, its_piece, its_piece_moves}
use Rattle.many_core.proofs.many.ManyCore.bring.Goals as goal

pub returns-in_default-clause-met : goal.returns-in_default-clause-met
returns-in_default-clause-met c =
    no_piece c.args.self.now c.requires.hung_up c.args.conn (c.in_default.ensures.place ∙ ap (λ (v : ManyCore). position (λ (seat : Seat). seat.conn == c.args.conn) v.core.seats) c.self.view_is) c.args.piece.now

pub returns-in_default-clause-moved : goal.returns-in_default-clause-moved
returns-in_default-clause-moved c = λ quiet.
    no_piece_moves c.args.self.now c.requires.hung_up c.args.conn (c.in_default.ensures.place ∙ ap (λ (v : ManyCore). position (λ (seat : Seat). seat.conn == c.args.conn) v.core.seats) c.self.view_is) c.args.piece.now

pub meet_at-requires-clause-within : goal.meet_at-requires-clause-within
meet_at-requires-clause-within c =
    let chosen : Chosen = c.in-Some-chosen_at.chosen in
    let core = value c.self.inside.paths c.self.inside.limits c.self.inside.cores c.self.inside.seats in
    subst (λ (v : ManyCore). chosen.device < length v.core.cores) c.self.view_is (its_device core c.self.invariant.count c.self.invariant.places c.in-Some.place c.in-Some.ensures.within chosen (λ seat at. sym (c.in-Some-chosen_at.ensures seat at)))

pub returns-in-Some-chosen_at-clause-met : goal.returns-in-Some-chosen_at-clause-met
returns-in-Some-chosen_at-clause-met c =
    let x = c.args.self.now in
    let i = c.in-Some.place in
    let is : Some i ≡ position (λ (seat : Seat). seat.conn == c.args.conn) x.core.seats = c.in-Some.ensures.place ∙ ap (λ (v : ManyCore). position (λ (seat : Seat). seat.conn == c.args.conn) v.core.seats) c.self.view_is in
    let within : i < length x.core.seats = subst (λ (v : ManyCore). i < length v.core.seats) c.self.view_is c.in-Some.ensures.within in
    let chosen : Chosen = c.in-Some-chosen_at.chosen in
    let chose = subst (λ (v : ManyCore). (seat : Seat) → IsSeat seat v.core.seats i → chosen_in seat.place ≡ Some chosen) c.self.view_is (λ seat at. sym (c.in-Some-chosen_at.ensures seat at)) in
    c.meet_at.ensures.met ∙ its_piece x c.requires.hung_up c.args.conn i is within chosen chose c.args.piece.now

pub returns-in-Some-chosen_at-clause-moved : goal.returns-in-Some-chosen_at-clause-moved
returns-in-Some-chosen_at-clause-moved c = λ quiet.
    let x = c.args.self.now in
    let i = c.in-Some.place in
    let is : Some i ≡ position (λ (seat : Seat). seat.conn == c.args.conn) x.core.seats = c.in-Some.ensures.place ∙ ap (λ (v : ManyCore). position (λ (seat : Seat). seat.conn == c.args.conn) v.core.seats) c.self.view_is in
    let within : i < length x.core.seats = subst (λ (v : ManyCore). i < length v.core.seats) c.self.view_is c.in-Some.ensures.within in
    let chosen : Chosen = c.in-Some-chosen_at.chosen in
    let chose = subst (λ (v : ManyCore). (seat : Seat) → IsSeat seat v.core.seats i → chosen_in seat.place ≡ Some chosen) c.self.view_is (λ seat at. sym (c.in-Some-chosen_at.ensures seat at)) in
    its_piece_moves x c.requires.hung_up c.args.conn i is within chosen chose c.args.piece.now (c.meet_at.ensures.fewer quiet)
