use Rattle.std.proofs.Common.{Bool, refl, ap, sym, ◌∙◌, arith}
use Rattle.mbim_frame.specs.declared.kind.MessageKind.TheVariants.{IndicateStatus}
use Rattle.mbim_frame.specs.Kinds.{kind_number}
use Rattle.mbim_fragments.specs.Splitting.{split}
use Rattle.proxy_state.proofs.Chosen.{tell_from_end}
use Rattle.mbim_proxy.specs.FromModem.{IsIndication, heard_if}
use Rattle.mbim_state.specs.Core.{setup_of}
use Rattle.mbim_state.specs.Transitions.{give_up, hear_as}
use Rattle.mbim_core.specs.State.{state_of, wants_in}
use Rattle.mbim_core.proofs.Texts.{indication_told, read_indication_is}
use Rattle.mbim_core.proofs.teller.Teller.indicate.Goals as goal

pub returns-clause-told : goal.returns-clause-told
returns-clause-told c = λ m I.
    let R = read_indication_is c.args.body.now c.in-Some.head c.in-Some.ensures in
    sym (tell_from_end give_up (λ client. split (kind_number IndicateStatus) 0 client.fragment c.args.body.now) (λ client. client) (wants_in c.in-Some.head) (λ d beside k later. refl) c.loop-index.index (state_of c.loop-index.connections c.loop-index.side) (omega (arith, c.loop-index-test.false, c.present.ensures.count)))
    ∙ c.loop-index.invariant.told
    ∙ indication_told (setup_of c.args.side.now) c.in-Some.head c.args.body.now m (state_of c.args.connections.now c.args.side.now) R.1 I
    ∙ sym (ap (λ (b : Bool). hear_as (setup_of c.args.side.now) (heard_if b IsIndication) m (state_of c.args.connections.now c.args.side.now)) R.0)
