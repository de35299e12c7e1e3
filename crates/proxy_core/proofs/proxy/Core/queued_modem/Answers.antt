use Rattle.std.proofs.Common.{subst}
use Rattle.outbox.specs.Fronts.{IsFrontOf}
use Rattle.proxy_core.specs.Core.{handlers_in}
use Rattle.proxy_core.specs.Shows.{modem_waiting_is}
use Rattle.proxy_core.proofs.proxy.Core.queued_modem.Goals as goal

pub returns : goal.returns
returns g c =
    let d = g.P.Protocol.meaning in
    let core = c.args.self.now in
    let queue : IsFrontOf c.queued.result.now ((handlers_in d core).modem_queue core.state.beside) = subst (λ v. IsFrontOf c.queued.result.now ((handlers_in d v).modem_queue v.state.beside)) c.self.view_is c.queued.ensures in
    record { queue = queue; text = λ s events S. subst (IsFrontOf c.queued.result.now) (modem_waiting_is g.P.Protocol.meaning g.P.Client.Renews.fresh g.P.Frame.Framing.size g.met.P.Protocol.lawful s events core S) queue }
