use Rattle.std.proofs.Common.{◌≡◌, ℕ, ◌<◌, ◌≤◌, ◌==◌, List, length, position, ap, sym, ◌∙◌, subst, Option, Some, None}
use Rattle.qmi_state.specs.Core.{QmiCore}
use Rattle.qmi_state.specs.Transitions.{qmi_handlers}
use Rattle.many_history.specs.Many.{Seat}
use Rattle.many_state.specs.Core.{queue_under}
use Rattle.many_seats.specs.declared.chosen.Chosen.{Chosen}
use Rattle.many_seats.specs.Seats.{IsSeat, chosen_in}
use Rattle.many_cores.proofs.Places.{got_at}
use Rattle.many_core.specs.Core.{ManyCore, with_cores}
use Rattle.many_core.proofs.Meeting.{value}
use Rattle.many_core.proofs.Here.{its_device, no_taking, no_taking_moves, its_taking, its_taking_moves, its_queue, waits_for_nothing, waits_for_nothing_moves}
use Rattle.many_core.proofs.many.ManyCore.take.Goals as goal

pub returns-in_default-clause-met : goal.returns-in_default-clause-met
returns-in_default-clause-met c =
    no_taking c.args.self.now c.requires.hung_up c.args.conn (c.in_default.ensures.place ∙ ap (λ (v : ManyCore). position (λ (seat : Seat). seat.conn == c.args.conn) v.core.seats) c.self.view_is) c.args.count

pub returns-in_default-clause-moved : goal.returns-in_default-clause-moved
returns-in_default-clause-moved c = λ quiet.
    no_taking_moves c.args.self.now c.requires.hung_up c.args.conn (c.in_default.ensures.place ∙ ap (λ (v : ManyCore). position (λ (seat : Seat). seat.conn == c.args.conn) v.core.seats) c.self.view_is) c.args.count

pub meet_at-requires-clause-within : goal.meet_at-requires-clause-within
meet_at-requires-clause-within c =
    let chosen : Chosen = c.in-Some-chosen_at.chosen in
    let core = value c.self.inside.paths c.self.inside.limits c.self.inside.cores c.self.inside.seats in
    subst (λ (v : ManyCore). chosen.device < length v.core.cores) c.self.view_is (its_device core c.self.invariant.count c.self.invariant.places c.in-Some.place c.in-Some.ensures.within chosen (λ seat at. sym (c.in-Some-chosen_at.ensures seat at)))

pub meet_at-requires-clause-may_come : goal.meet_at-requires-clause-may_come
meet_at-requires-clause-may_come c = λ core at.
    let x = c.args.self.now in
    let i = c.in-Some.place in
    let is : Some i ≡ position (λ (seat : Seat). seat.conn == c.args.conn) x.core.seats = c.in-Some.ensures.place ∙ ap (λ (v : ManyCore). position (λ (seat : Seat). seat.conn == c.args.conn) v.core.seats) c.self.view_is in
    let within : i < length x.core.seats = subst (λ (v : ManyCore). i < length v.core.seats) c.self.view_is c.in-Some.ensures.within in
    let chosen : Chosen = c.in-Some-chosen_at.chosen in
    let chose = subst (λ (v : ManyCore). (seat : Seat) → IsSeat seat v.core.seats i → chosen_in seat.place ≡ Some chosen) c.self.view_is (λ seat at. sym (c.in-Some-chosen_at.ensures seat at)) in
    let few = subst (λ (l : List ℕ). c.args.count ≤ length l) (its_queue x c.requires.hung_up c.args.conn i is within chosen chose) c.requires.may_come in
    let device : chosen.device < length x.core.cores = meet_at-requires-clause-within c in
    subst (λ (o : Option QmiCore). c.args.count ≤ length (queue_under qmi_handlers chosen.name o)) (got_at x.core.cores chosen.device core device at) few

pub returns-in-Some-chosen_at-clause-met : goal.returns-in-Some-chosen_at-clause-met
returns-in-Some-chosen_at-clause-met c =
    let x = c.args.self.now in
    let i = c.in-Some.place in
    let is : Some i ≡ position (λ (seat : Seat). seat.conn == c.args.conn) x.core.seats = c.in-Some.ensures.place ∙ ap (λ (v : ManyCore). position (λ (seat : Seat). seat.conn == c.args.conn) v.core.seats) c.self.view_is in
    let within : i < length x.core.seats = subst (λ (v : ManyCore). i < length v.core.seats) c.self.view_is c.in-Some.ensures.within in
    let chosen : Chosen = c.in-Some-chosen_at.chosen in
    let chose = subst (λ (v : ManyCore). (seat : Seat) → IsSeat seat v.core.seats i → chosen_in seat.place ≡ Some chosen) c.self.view_is (λ seat at. sym (c.in-Some-chosen_at.ensures seat at)) in
    c.meet_at.ensures.met ∙ its_taking x c.requires.hung_up c.args.conn i is within chosen chose c.args.count

pub returns-in-Some-chosen_at-clause-moved : goal.returns-in-Some-chosen_at-clause-moved
returns-in-Some-chosen_at-clause-moved c = λ quiet.
    let x = c.args.self.now in
    let i = c.in-Some.place in
    let is : Some i ≡ position (λ (seat : Seat). seat.conn == c.args.conn) x.core.seats = c.in-Some.ensures.place ∙ ap (λ (v : ManyCore). position (λ (seat : Seat). seat.conn == c.args.conn) v.core.seats) c.self.view_is in
    let within : i < length x.core.seats = subst (λ (v : ManyCore). i < length v.core.seats) c.self.view_is c.in-Some.ensures.within in
    let chosen : Chosen = c.in-Some-chosen_at.chosen in
    let chose = subst (λ (v : ManyCore). (seat : Seat) → IsSeat seat v.core.seats i → chosen_in seat.place ≡ Some chosen) c.self.view_is (λ seat at. sym (c.in-Some-chosen_at.ensures seat at)) in
    its_taking_moves x c.requires.hung_up c.args.conn i is within chosen chose c.args.count (c.meet_at.ensures.fewer quiet)

pub returns-in-None-clause-met : goal.returns-in-None-clause-met
returns-in-None-clause-met c =
    let x = c.args.self.now in
    let i = c.in-Some.place in
    let is : Some i ≡ position (λ (seat : Seat). seat.conn == c.args.conn) x.core.seats = c.in-Some.ensures.place ∙ ap (λ (v : ManyCore). position (λ (seat : Seat). seat.conn == c.args.conn) v.core.seats) c.self.view_is in
    let within : i < length x.core.seats = subst (λ (v : ManyCore). i < length v.core.seats) c.self.view_is c.in-Some.ensures.within in
    let unchosen = subst (λ (v : ManyCore). (seat : Seat) → IsSeat seat v.core.seats i → chosen_in seat.place ≡ None) c.self.view_is (λ seat at. sym (c.in-None.ensures seat at)) in
    waits_for_nothing x c.requires.hung_up c.args.conn i is within unchosen c.args.count

pub returns-in-None-clause-moved : goal.returns-in-None-clause-moved
returns-in-None-clause-moved c = λ quiet.
    let x = c.args.self.now in
    let i = c.in-Some.place in
    let is : Some i ≡ position (λ (seat : Seat). seat.conn == c.args.conn) x.core.seats = c.in-Some.ensures.place ∙ ap (λ (v : ManyCore). position (λ (seat : Seat). seat.conn == c.args.conn) v.core.seats) c.self.view_is in
    let within : i < length x.core.seats = subst (λ (v : ManyCore). i < length v.core.seats) c.self.view_is c.in-Some.ensures.within in
    let unchosen = subst (λ (v : ManyCore). (seat : Seat) → IsSeat seat v.core.seats i → chosen_in seat.place ≡ None) c.self.view_is (λ seat at. sym (c.in-None.ensures seat at)) in
    waits_for_nothing_moves x c.requires.hung_up c.args.conn i is within unchosen c.args.count
