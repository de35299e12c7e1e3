use Rattle.std.proofs.Common.{◌≡◌, ◌<◌, List, [], length, ap, sym, ◌∙◌, subst, Some}
use Rattle.std.specs.Prelude.{ℕ}
use Rattle.outbox.specs.Fronts.{IsFrontOf}
use Rattle.qmi_state.specs.Core.{QmiCore}
use Rattle.qmi_state.specs.Transitions.{qmi_handlers}
use Rattle.many_history.specs.Many.{Seat}
use Rattle.many_state.specs.Core.{queue_at, queue_under}
use Rattle.many_seats.specs.Seats.{IsSeat}
use Rattle.many_cores.proofs.Places.{some_at, got_at}
use Rattle.many_core.specs.Core.{ManyCore}
use Rattle.many_core.proofs.Here.{its_device}
use Rattle.many_core.proofs.Inside.{of_chosen, of_none}
use Rattle.many_core.proofs.Meeting.{value}
use Rattle.many_core.proofs.Waits.{no_bytes_wait}
use Rattle.many_core.proofs.many.ManyCore.queued_at.Goals as goal

pub at-requires : goal.at-requires
at-requires c =
    let x = value c.self.inside.paths c.self.inside.limits c.self.inside.cores c.self.inside.seats in
    let within : c.args.place < length x.core.seats = subst (λ (v : ManyCore). c.args.place < length v.core.seats) (sym c.self.view_is) c.requires in
    its_device x c.self.invariant.count c.self.invariant.places c.args.place within c.in-Some.chosen (λ seat at. sym (c.in-Some.ensures seat at))

-- it has chosen
pub returns-in-Some : goal.returns-in-Some
returns-in-Some c = λ seat at.
    let seats : List Seat = c.self.inside.seats.seats in
    let cores : List QmiCore = c.self.inside.cores in
    let chosen = c.in-Some.chosen in
    let x = value c.self.inside.paths c.self.inside.limits cores c.self.inside.seats in
    let within : c.args.place < length seats = subst (λ (v : ManyCore). c.args.place < length v.core.seats) (sym c.self.view_is) c.requires in
    let here : IsSeat seat seats c.args.place = subst (λ (v : ManyCore). IsSeat seat v.core.seats c.args.place) (sym c.self.view_is) at in
    let device = its_device x c.self.invariant.count c.self.invariant.places c.args.place within chosen (λ other found. sym (c.in-Some.ensures other found)) in
    let core = some_at cores chosen.device device in
    let is : queue_at qmi_handlers cores (Some seat.place) ≡ queue_under qmi_handlers chosen.name (Some c.at.result.now) =
    ap (λ p. queue_at qmi_handlers cores (Some p)) (of_chosen seat.place chosen (sym (c.in-Some.ensures seat here)))
    ∙ ap (queue_under qmi_handlers chosen.name) (got_at cores chosen.device core.0 device core.1 ∙ ap Some (sym (c.at.ensures core.0 core.1)))
    in
    subst (λ (v : ManyCore). IsFrontOf c.queued_in.result.now (queue_at qmi_handlers v.core.cores (Some seat.place))) c.self.view_is (subst (λ (l : List ℕ). IsFrontOf c.queued_in.result.now l) (sym is) c.queued_in.ensures)

-- it hasn't
pub returns-in-None : goal.returns-in-None
returns-in-None c = λ seat at.
    let seats : List Seat = c.self.inside.seats.seats in
    let cores : List QmiCore = c.self.inside.cores in
    let here : IsSeat seat seats c.args.place = subst (λ (v : ManyCore). IsSeat seat v.core.seats c.args.place) (sym c.self.view_is) at in
    let none : queue_at qmi_handlers cores (Some seat.place) ≡ [] = ap (λ p. queue_at qmi_handlers cores (Some p)) (of_none seat.place (sym (c.in-None.ensures seat here))) in
    subst (λ (v : ManyCore). IsFrontOf [] (queue_at qmi_handlers v.core.cores (Some seat.place))) c.self.view_is (no_bytes_wait (queue_at qmi_handlers cores (Some seat.place)) none)
