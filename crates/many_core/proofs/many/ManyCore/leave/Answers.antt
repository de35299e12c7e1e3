use Rattle.std.proofs.Common.{◌≡◌, ◌<◌, ◌≤◌, ◌==◌, List, length, position, ap, sym, ◌∙◌, subst, Option, Some, None}
use Rattle.qmi_state.specs.Core.{QmiCore}
use Rattle.qmi_state.specs.Transitions.{qmi_handlers}
use Rattle.many_history.specs.Many.{Seat}
use Rattle.many_state.specs.Core.{queue_under}
use Rattle.many_seats.specs.declared.chosen.Chosen.{Chosen}
use Rattle.many_seats.specs.Seats.{IsSeat, chosen_in}
use Rattle.proxy_history.specs.Events.{Left}
use Rattle.many_cores.specs.Cores.{met, at_place}
use Rattle.many_core.specs.Core.{ManyCore, with_cores}
use Rattle.many_core.proofs.Meeting.{value}
use Rattle.many_core.proofs.Here.{its_device, without_place, no_leaving, no_leaving_moves, its_leaving, goes_unchosen}
use Rattle.many_core.proofs.many.ManyCore.leave.Goals as goal

pub returns-in_default-clause-met : goal.returns-in_default-clause-met
returns-in_default-clause-met c =
    no_leaving c.args.self.now c.requires c.args.conn (c.in_default.ensures.place ∙ ap (λ (v : ManyCore). position (λ (seat : Seat). seat.conn == c.args.conn) v.core.seats) c.self.view_is)

pub returns-in_default-clause-moved : goal.returns-in_default-clause-moved
returns-in_default-clause-moved c = λ quiet.
    no_leaving_moves c.args.self.now c.requires c.args.conn (c.in_default.ensures.place ∙ ap (λ (v : ManyCore). position (λ (seat : Seat). seat.conn == c.args.conn) v.core.seats) c.self.view_is)

pub meet_at-requires-clause-within : goal.meet_at-requires-clause-within
meet_at-requires-clause-within c =
    let core = value c.self.inside.paths c.self.inside.limits c.self.inside.cores c.self.inside.seats in
    its_device core c.self.invariant.count c.self.invariant.places c.in-Some.place c.in-Some.ensures.within c.in-Some-chosen.chosen (λ seat at. sym (c.chosen_at-chosen.ensures seat at) ∙ c.in-Some-chosen.is)

pub returns-in-Some-chosen-clause-met : goal.returns-in-Some-chosen-clause-met
returns-in-Some-chosen-clause-met c =
    let x = c.args.self.now in
    let i = c.in-Some.place in
    let is : Some i ≡ position (λ (seat : Seat). seat.conn == c.args.conn) x.core.seats = c.in-Some.ensures.place ∙ ap (λ (v : ManyCore). position (λ (seat : Seat). seat.conn == c.args.conn) v.core.seats) c.self.view_is in
    let within : i < length x.core.seats = subst (λ (v : ManyCore). i < length v.core.seats) c.self.view_is c.in-Some.ensures.within in
    let gone = ap (value c.self.inside.paths c.self.inside.limits c.self.inside.cores) c.leave_at.ensures ∙ ap (λ (v : ManyCore). without_place i v) c.self.view_is in
    let chosen : Chosen = c.in-Some-chosen.chosen in
    let chose = subst (λ (v : ManyCore). (seat : Seat) → IsSeat seat v.core.seats i → chosen_in seat.place ≡ Some chosen) c.self.view_is (λ seat at. sym (c.chosen_at-chosen.ensures seat at) ∙ c.in-Some-chosen.is) in
    c.meet_at.ensures.met ∙ ap (λ (v : ManyCore). with_cores (at_place chosen.device (met (Left chosen.name)) v.core.cores) v) gone ∙ its_leaving x c.requires c.args.conn i is within chosen chose

pub returns-in-None-clause-met : goal.returns-in-None-clause-met
returns-in-None-clause-met c =
    let x = c.args.self.now in
    let i = c.in-Some.place in
    let is : Some i ≡ position (λ (seat : Seat). seat.conn == c.args.conn) x.core.seats = c.in-Some.ensures.place ∙ ap (λ (v : ManyCore). position (λ (seat : Seat). seat.conn == c.args.conn) v.core.seats) c.self.view_is in
    let within : i < length x.core.seats = subst (λ (v : ManyCore). i < length v.core.seats) c.self.view_is c.in-Some.ensures.within in
    let gone = ap (value c.self.inside.paths c.self.inside.limits c.self.inside.cores) c.leave_at.ensures ∙ ap (λ (v : ManyCore). without_place i v) c.self.view_is in
    let unchosen = subst (λ (v : ManyCore). (seat : Seat) → IsSeat seat v.core.seats i → chosen_in seat.place ≡ None) c.self.view_is (λ seat at. sym (c.chosen_at-chosen.ensures seat at) ∙ c.in-None.is) in
    gone ∙ goes_unchosen x c.requires c.args.conn i is within unchosen
