use Rattle.std.proofs.Common.{◌≡◌, ℕ, [], ap, ◌∙◌}
use Rattle.mbim_frame.specs.declared.kind.MessageKind.TheVariants.{CommandDone}
use Rattle.mbim_frame.specs.declared.status.TheConstants.{FAILURE}
use Rattle.mbim_frame.specs.Kinds.{kind_number}
use Rattle.mbim_frame.specs.Bodies.{done_text}
use Rattle.mbim_fragments.specs.Splitting.{split}
use Rattle.mbim_proxy.specs.Text.{refusal_text}
use Rattle.mbim_state.specs.Asked.{ask_by}
use Rattle.mbim_state.specs.Core.{known_by, MbimState}
use Rattle.mbim_state.specs.Transitions.{give_up}
use Rattle.mbim_core.specs.State.{state_of}
use Rattle.mbim_core.proofs.Hands.{told_is}
use Rattle.mbim_core.proofs.Turns.{nobody_told, one_told}
use Rattle.mbim_core.proofs.teller.Teller.tell_refusal.Goals as goal

pub returns-in_default-clause-told : goal.returns-in_default-clause-told
returns-in_default-clause-told c =
    (nobody_told give_up (λ client. refusal_text (known_by client) (ask_by c.args.command.now)) c.args.name (state_of c.args.connections.now c.args.side.now) c.in_default.ensures.place)

pub returns-clause-told : goal.returns-clause-told
returns-clause-told c =
    let was : MbimState = state_of c.args.connections.now c.args.side.now in
    let written : c.text-text.result.now ≡ refusal_text (known_by c.client_at.result.now) (ask_by c.args.command.now) =
    c.text-text.ensures ∙ c.done.ensures
    ∙ ap (λ (n : ℕ). split (kind_number CommandDone) c.args.command.now.number n (done_text (record { uuid = c.args.command.now.uuid; cid = c.args.command.now.cid; status = FAILURE }) [])) c.fragment-max.ensures.fragment
    in
    c.put-stays.ensures.told
    ∙ one_told give_up (λ client. refusal_text (known_by client) (ask_by c.args.command.now)) c.args.name was c.in-Some.place c.in-Some.ensures.place c.client_at.result.now c.client_at.ensures c.text-text.result.now written

pub returns-clause-agrees : goal.returns-clause-agrees
returns-clause-agrees c = told_is _ _ _ c.requires c.in-Some.ensures.regular.rising c.text-text.result.now c.args.name _ _ c.put-stays.result _ c.leave_unless.ensures c.put-stays.ensures.told c.put-stays.ensures.stays c.put-stays.ensures.limit c.put-stays.ensures.list
