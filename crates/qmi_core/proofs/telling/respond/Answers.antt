use Rattle.std.proofs.Common.{sym, ◌∙◌, ap}
use Rattle.proxy_core.specs.Meaning.{state_of}
use Rattle.qmi_state.specs.Core.{ModemSide}
use Rattle.qmi_state.specs.Transitions.{responds}
use Rattle.qmi_core.proofs.Inside.{side_in}
use Rattle.qmi_core.proofs.Responses.{responded_waits, responded_late}
use Rattle.qmi_core.proofs.telling.respond.Goals as goal

pub returns-then-waits-clause-told : goal.returns-then-waits-clause-told
returns-then-waits-clause-told c =
    responded_waits c.args.message.now (state_of c.args.connections.now (side_in c.side.inside)) c.is_control-control.result c.is_control-control.ensures c.number-number.result c.number-number.ensures c.in-Some.name c.in-Some.asked c.in-Some.waits c.in-Some.ensures
    c.service.result c.service.ensures c.cid.result c.cid.ensures (sym c.if-not-fits.false ∙ c.fits.ensures) c.free.new.self c.free.ensures c.if-waits.true (state_of c.answer.new.connections c.answer.new.side) c.answer.ensures.told
    ∙ ap (λ (b : ModemSide). responds c.args.message.now (state_of c.args.connections.now b)) c.side.view_is

pub returns-else-waits-clause-told : goal.returns-else-waits-clause-told
returns-else-waits-clause-told c =
    responded_late c.args.message.now (state_of c.args.connections.now (side_in c.side.inside)) c.is_control-control.result c.is_control-control.ensures c.number-number.result c.number-number.ensures c.in-Some.name c.in-Some.asked c.in-Some.waits c.in-Some.ensures
    c.service.result c.service.ensures c.cid.result c.cid.ensures (sym c.if-not-fits.false ∙ c.fits.ensures) c.free.new.self c.free.ensures c.if-waits.false
    ∙ ap (λ (b : ModemSide). responds c.args.message.now (state_of c.args.connections.now b)) c.side.view_is
