use Rattle.std.proofs.Common.{sym, ◌∙◌, arith}
use Rattle.proxy_state.proofs.Chosen.{tell_from_end}
use Rattle.proxy_core.specs.Meaning.{state_of}
use Rattle.qmi_state.specs.Transitions.{give_up}
use Rattle.qmi_core.specs.State.{is_chosen}
use Rattle.qmi_core.proofs.Tells.{still_chosen}
use Rattle.qmi_core.proofs.telling.tell_each.Goals as goal

pub returns-clause-told : goal.returns-clause-told
returns-clause-told c =
    sym (tell_from_end give_up (λ client. c.args.bytes.now) (λ client. client) (is_chosen c.args.audience) (still_chosen c.args.audience) c.loop-index.index (state_of c.loop-index.connections c.loop-index.side) (omega (arith, c.loop-index-test.false, c.present.ensures.count)))
    ∙ c.loop-index.invariant.told
