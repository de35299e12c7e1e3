use Rattle.std.proofs.Common.{ap, ◌∙◌}
use Rattle.mbim_frame.specs.declared.head.MHead.{MHead}
use Rattle.mbim_frame.specs.declared.kind.MessageKind.TheVariants.{OpenDone, CommandDone, FunctionError, IndicateStatus}
use Rattle.mbim_frame.specs.Kinds.{kind_numbered}
use Rattle.mbim_state.specs.Core.{setup_of}
use Rattle.mbim_core.specs.State.{state_of}
use Rattle.mbim_core.proofs.Hearing.{heard_not}
use Rattle.mbim_core.proofs.teller.Teller.hear_modem.Goals as goal

pub returns-in_default-clause-told : goal.returns-in_default-clause-told
returns-in_default-clause-told c =
    heard_not (setup_of c.args.side.now) c.args.message.now (state_of c.args.connections.now c.args.side.now) c.message_kind.result (c.message_kind.ensures ∙ ap (λ (h : MHead). kind_numbered h.kind) c.read.ensures) (c.in_default.not-Some CommandDone)
    (c.in_default.not-Some OpenDone) (c.in_default.not-Some FunctionError) (c.in_default.not-Some IndicateStatus)

pub returns-in_default-kind-clause-told : goal.returns-in_default-kind-clause-told
returns-in_default-kind-clause-told c =
    heard_not (setup_of c.args.side.now) c.args.message.now (state_of c.args.connections.now c.args.side.now) c.message_kind.result (c.message_kind.ensures ∙ ap (λ (h : MHead). kind_numbered h.kind) c.read.ensures)
    (λ is. c.in_default-kind.not-CommandDone (cc)) (λ is. c.in_default-kind.not-OpenDone (cc)) (λ is. c.in_default-kind.not-FunctionError (cc)) (λ is. c.in_default-kind.not-IndicateStatus (cc))
