use Rattle.std.proofs.Common.{ap}
use Rattle.proxy_core.proofs.Standing.{opened_is, opened_stands}
use Rattle.proxy_core.proofs.proxy.Core.open.Goals as goal

pub returns : goal.returns
returns g c =
    let d = g.P.Protocol.meaning in
    let none = ap (λ r. r.rest) c.in_ok-cutter.ensures in
    record {
      opened = λ path is. opened_is g.P.Protocol.meaning g.P.Client.Renews.fresh g.P.Frame.Framing.size g.met.P.Protocol.lawful (d.opening c.args.limits.now path) c.in_ok-connections.connections c.in_ok-hand.side c.in_ok-cutter.cutter.rest c.in_ok-connections.ensures (c.in_ok-hand.ensures.beside path is) none;
      stands = λ path is.
          opened_stands g.P.Protocol.meaning g.P.Client.Renews.fresh g.P.Frame.Framing.size g.met.P.Protocol.lawful (d.opening c.args.limits.now path) _ (g.met.P.Protocol.lawful.opens c.args.limits.now path) _
          (opened_is g.P.Protocol.meaning g.P.Client.Renews.fresh g.P.Frame.Framing.size g.met.P.Protocol.lawful (d.opening c.args.limits.now path) c.in_ok-connections.connections c.in_ok-hand.side c.in_ok-cutter.cutter.rest c.in_ok-connections.ensures (c.in_ok-hand.ensures.beside path is) none);
    }
