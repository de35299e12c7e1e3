use Rattle.std.proofs.Common.{ap, sym, ◌∙◌, refl, subst, None}
use Rattle.holders.specs.Kept.{FirstDue}
use Rattle.qmi_proxy.specs.Clients.{deadline_of}
use Rattle.qmi_state.specs.Core.{ModemSide, QmiState}
use Rattle.qmi_state.specs.Traffic.{number_for_own}
use Rattle.qmi_state.specs.Transitions.{with_traffic}
use Rattle.proxy_core.specs.Meaning.{state_of}
use Rattle.qmi_core.specs.State.{NextReleased, id_of, asks_under}
use Rattle.qmi_core.proofs.Inside.{side_in}
use Rattle.qmi_core.proofs.Releases.{none_released, next_released}
use Rattle.qmi_core.proofs.telling.release_next.Goals as goal

pub returns-in_default : goal.returns-in_default
returns-in_default c = λ table.
    none_released c.args.after (state_of table c.args.side.now) (state_of table c.args.side.now) refl (subst (λ (b : ModemSide). FirstDue c.args.after b.time b.traffic.kept None) c.side.view_is c.in_default.ensures)

pub returns : goal.returns
returns c = λ table.
    let was : QmiState = state_of table (side_in c.side.inside) in
    let id = id_of c.in-Some.service c.in-Some.cid in
    subst (λ (b : ModemSide). NextReleased c.args.after (state_of table b) (with_traffic c.ask_release.new.self was) c.ask_release.result) c.side.view_is
    (next_released c.args.after was c.in-Some.service c.in-Some.cid c.in-Some.ensures c.ask_release.result c.ask_release.new.self c.ask_release.ensures.asked
    (c.ask_release.ensures.traffic
    ∙ ap (λ t. asks_under (number_for_own id was.beside.traffic) t id was.beside.traffic) (c.deadline-deadline.ensures ∙ sym (ap (λ (b : ModemSide). deadline_of b.time b.time_limit) c.side.view_is))))
