use Rattle.std.proofs.Common.{◌++◌, ◌∙◌}
use Rattle.mbim_proxy.specs.Text.{response_text}
use Rattle.mbim_state.specs.Asked.{ask_by}
use Rattle.mbim_state.specs.Core.{known_by}
use Rattle.mbim_state.specs.Transitions.{give_up}
use Rattle.mbim_core.specs.State.{state_of}
use Rattle.mbim_core.proofs.Hands.{told_is}
use Rattle.mbim_core.proofs.Texts.{done_text_is}
use Rattle.mbim_core.proofs.Turns.{nobody_told, one_told}
use Rattle.mbim_core.proofs.teller.Teller.tell_done.Goals as goal

pub returns-in_default-clause-told : goal.returns-in_default-clause-told
returns-in_default-clause-told c = λ m D.
    (nobody_told give_up (λ client. response_text (known_by client) (ask_by c.args.command.now) m) c.args.name (state_of c.args.connections.now c.args.side.now) c.in_default.ensures.place)

-- an answer in fragments is what the writer wrote
pub returns-in_default-unsplit_head-clause-told : goal.returns-in_default-unsplit_head-clause-told
returns-in_default-unsplit_head-clause-told c = λ m D.
    c.put-stays.ensures.told
    ∙ one_told give_up (λ client. response_text (known_by client) (ask_by c.args.command.now) m) c.args.name (state_of c.args.connections.now c.args.side.now) c.in-Some.place c.in-Some.ensures.place c.client_at.result.now c.client_at.ensures
    c.text.result.now (c.text.ensures ∙ c.split.ensures ∙ done_text_is c.args.body.now m D c.client_at.result.now c.args.command.now c.number-kind.result c.fragment-max.result c.number-kind.ensures c.fragment-max.ensures.fragment)

pub returns-in_default-unsplit_head-clause-agrees : goal.returns-in_default-unsplit_head-clause-agrees
returns-in_default-unsplit_head-clause-agrees c = told_is _ _ _ c.requires.agrees c.put-stays.ensures.regular.rising c.text.result.now c.args.name _ _ c.put-stays.result _ c.leave_unless.ensures c.put-stays.ensures.told c.put-stays.ensures.stays c.put-stays.ensures.limit c.put-stays.ensures.list

-- one in one fragment is its heads, and then its body
pub returns-clause-told : goal.returns-clause-told
returns-clause-told c = λ m D.
    c.put_at-stays.ensures.told
    ∙ one_told give_up (λ client. response_text (known_by client) (ask_by c.args.command.now) m) c.args.name (state_of c.args.connections.now c.args.side.now) c.in-Some.place c.in-Some.ensures.place c.client_at.result.now c.client_at.ensures
    (c.in-Some-unsplit_head.head ++ c.args.body.now) (c.in-Some-unsplit_head.ensures.head ∙ done_text_is c.args.body.now m D c.client_at.result.now c.args.command.now c.number-kind.result c.fragment-max.result c.number-kind.ensures c.fragment-max.ensures.fragment)

pub returns-clause-agrees : goal.returns-clause-agrees
returns-clause-agrees c = told_is _ _ _ c.requires.agrees c.in-Some.ensures.regular.rising (c.in-Some-unsplit_head.head ++ c.args.body.now) c.args.name _ _ c.put_at-stays.result _ c.leave_unless-2.ensures c.put_at-stays.ensures.told c.put_at-stays.ensures.stays c.put_at-stays.ensures.limit c.put_at-stays.ensures.list
