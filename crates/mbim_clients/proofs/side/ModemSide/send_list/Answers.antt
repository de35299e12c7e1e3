use Rattle.std.proofs.Common.{◌≡◌, ℕ, Bool, false, not, List, ap, ap₂, sym, ◌∙◌}
use Rattle.kit_bytes.specs.Subscriptions.{Pair}
use Rattle.mbim_services.specs.SubscribeLists.{is_same_list}
use Rattle.mbim_proxy.proofs.SameLists.{list_itself}
use Rattle.mbim_state.specs.declared.asked.Asked.TheVariants as asked
use Rattle.mbim_state.specs.Core.{ModemSide, setup_of}
use Rattle.mbim_state.specs.Transitions.{is_free}
use Rattle.mbim_state.specs.Transitions as transitions
use Rattle.mbim_clients.specs.Side.{state_of}
use Rattle.mbim_clients.specs.Traffic.{Traffic}
use Rattle.mbim_clients.specs.Commands.{sends, list_text, own_list}
use Rattle.mbim_clients.proofs.Sent.{with_traffic_and_list, sent_under}
use Rattle.mbim_clients.proofs.side.ModemSide.send_list.Goals as goal

pub returns-clause-side : goal.returns-clause-side
returns-clause-side c =
    let inside = c.self.inside in
    let was : ModemSide = record { device = inside.device; time_limit = inside.time_limit; time = inside.time; away = inside.away; modem = state_of inside.modem; numbers = inside.traffic.numbers; askers = inside.askers; last_list = inside.last_list; begun = record { answer = inside.answer; indication = inside.indication }; outbox = inside.traffic.outbox } in
    let list : List Pair = c.args.list.now in
    let free = ap (λ (side : ModemSide). is_free side) c.self.view_is ∙ sym c.is_free.ensures ∙ c.if-not-is_free.false in
    let other : is_same_list list inside.last_list ≡ false = ap₂ (λ (one other : List Pair). is_same_list one other) (sym c.pairs.ensures.pairs) (sym c.pairs-2.ensures.pairs) ∙ sym c.is_same.ensures ∙ c.if-is_same.false in
    ap₂ (λ (t : Traffic) (l : List Pair). with_traffic_and_list was list t l)
    (c.send_list.ensures.traffic ∙ ap (λ (deadline : ℕ). sends c.send_list.result 0 (asked.Command own_list) deadline (list_text list) inside.traffic) c.saturating_add-deadline.ensures)
    c.set.ensures
    ∙ sent_under was list c.send_list.result (sym c.send_list.ensures.number) (c.is_none.ensures ∙ ap (λ (b : Bool). not b) c.if-is_none.false) free other
    ∙ ap (λ (side : ModemSide). transitions.send_list (setup_of side) list side) c.self.view_is

pub returns-clause-asked : goal.returns-clause-asked
returns-clause-asked c = sym (ap (is_same_list c.args.list.now) c.set.ensures ∙ list_itself c.args.list.now)
