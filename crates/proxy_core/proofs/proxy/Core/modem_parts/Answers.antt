use Rattle.std.proofs.Common.{◌≡◌, ◌++◌, ap, ◌∙◌}
use Rattle.proxy_core.specs.Core.{handlers_in}
use Rattle.proxy_core.specs.Shows.{modem_waiting_is}
use Rattle.proxy_core.proofs.proxy.Core.modem_parts.Goals as goal

pub returns : goal.returns
returns g c =
    let d = g.P.Protocol.meaning in
    let core = c.args.self.now in
    let queue : c.parts.result.0.now ++ c.parts.result.1.now ≡ (handlers_in d core).modem_queue core.state.beside = c.parts.ensures ∙ ap (λ v. (handlers_in d v).modem_queue v.state.beside) c.self.view_is in
    record { queue = queue; text = λ s events S. queue ∙ modem_waiting_is g.P.Protocol.meaning g.P.Client.Renews.fresh g.P.Frame.Framing.size g.met.P.Protocol.lawful s events core S }
