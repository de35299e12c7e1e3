use Rattle.std.proofs.Common.{◌≡◌, ℕ, List, refl, ap, sym, ◌∙◌}
use Rattle.mbim_frame.specs.Head.{with_number}
use Rattle.proxy_state.specs.Telling.{tell}
use Rattle.proxy_state.proofs.Telling.{tell_is}
use Rattle.mbim_proxy.specs.Text.{response_text}
use Rattle.mbim_state.specs.Asked.{ask_by}
use Rattle.mbim_state.specs.Core.{known_by, MbimState}
use Rattle.mbim_state.specs.Transitions.{give_up}
use Rattle.mbim_core.specs.State.{state_of}
use Rattle.mbim_core.proofs.Hands.{told_is}
use Rattle.mbim_core.proofs.Texts.{error_text_is}
use Rattle.mbim_core.proofs.teller.Teller.tell_error.Goals as goal

pub returns-clause-told : goal.returns-clause-told
returns-clause-told c =
    let was : MbimState = state_of c.args.connections.now c.args.side.now in
    let m : List ℕ = c.args.message.now in
    let error : List ℕ = with_number c.args.command.now.number m in
    let written : c.set_number.new.message ≡ error = c.set_number.ensures ∙ ap (with_number c.args.command.now.number) c.copy_from_slice.ensures.after in
    c.put-stays.ensures.told
    ∙ ap (λ (l : List ℕ). tell give_up (λ _. l) (λ client. client) c.args.name was) written
    ∙ tell_is give_up (λ _. error) c.args.name error was (λ k at. refl)
    ∙ sym (tell_is give_up (λ client. response_text (known_by client) (ask_by c.args.command.now) m) c.args.name error was (λ k at. sym (error_text_is m c.requires.kind k.client c.args.command.now)))

pub returns-clause-agrees : goal.returns-clause-agrees
returns-clause-agrees c = told_is _ _ _ c.requires.agrees c.put-stays.ensures.regular.rising c.set_number.new.message c.args.name _ _ c.put-stays.result _ c.leave_unless.ensures c.put-stays.ensures.told c.put-stays.ensures.stays c.put-stays.ensures.limit c.put-stays.ensures.list
