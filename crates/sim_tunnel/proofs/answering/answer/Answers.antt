use Rattle.std.proofs.Common.{rules, ◌≡◌, ℕ, true, false, List, [], ◌++◌, IfOk, ap, subst, ◌∙◌}
use Rattle.kit_bytes.specs.Indications.{wants}
use Rattle.mbim_frame.specs.declared.status.TheConstants.{INVALID_PARAMETERS, SUCCESS}
use Rattle.qmux_frame.specs.Frame.{qmux_cut}
use Rattle.qmi_tunnel.specs.declared.service.TheConstants.{QMI_SERVICE, QMI_MESSAGE}
use Rattle.sim_mbim.specs.Writing.{done}
use Rattle.sim_tunnel.specs.Carrying.{carrier, indications}
use Rattle.sim_tunnel.proofs.Telling.{answer-all, answer-first, answer-none, done_as}
use Rattle.sim_tunnel.proofs.answering.answer.Goals as goal

pub returns-in_default : goal.returns-in_default
returns-in_default c =
    let m = c.args.mbim.now.modem in
    subst (λ (l : List ℕ). IfOk c.done.result (λ text. text ≡ l))
    (done_as c.args.number c.longest-longest.ensures.longest c.carrier.ensures INVALID_PARAMETERS [] ∙ answer-none c.args.number m c.args.messages.now c.in_default.ensures) c.done.ensures

pub returns-then-not-is_heard : goal.returns-then-not-is_heard
returns-then-not-is_heard c =
    let m = c.args.mbim.now.modem in
    let response = c.split_at.result.0.now in
    let unheard : wants m.subscribed QMI_SERVICE QMI_MESSAGE ≡ false = search rules in
    c.in_ok-text.ensures ∙ done_as c.args.number c.longest-longest.ensures.longest c.carrier-2.ensures SUCCESS response
    ∙ answer-first c.args.number m c.args.messages.now c.in-Some.count c.in-Some.ensures response c.split_at.ensures.front unheard

pub returns : goal.returns
returns c =
    let m = c.args.mbim.now.modem in
    let response = c.split_at.result.0.now in
    let more = (qmux_cut c.split_at.result.1.now).messages in
    let said : c.in_ok-text.text ≡ done c.args.number m.longest carrier SUCCESS response = c.in_ok-text.ensures ∙ done_as c.args.number c.longest-longest.ensures.longest c.carrier-2.ensures SUCCESS response in
    let heard : wants m.subscribed QMI_SERVICE QMI_MESSAGE ≡ true = search rules in
    c.in_ok-add_indications.ensures
    ∙ ap (λ (l : List ℕ). l ++ indications c.longest-longest.result more) said
    ∙ ap (λ (n : ℕ). done c.args.number m.longest carrier SUCCESS response ++ indications n more) c.longest-longest.ensures.longest
    ∙ answer-all c.args.number m c.args.messages.now c.in-Some.count c.in-Some.ensures response c.split_at.ensures.front c.split_at.result.1.now c.split_at.ensures.back heard
