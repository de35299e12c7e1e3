use Rattle.std.proofs.Common.{◌≡◌, ap, ◌∙◌}
use Rattle.hub_io.specs.Events.{event_of}
use Rattle.proxy_core.specs.Core.{finished, step}
use Rattle.proxy_core.proofs.Events.{finished_is}
use Rattle.proxy_core.proofs.Standing.{step_lasts, step_greatest, step_stands, step_bounded}
use Rattle.proxy_core.proofs.proxy.Core.step.Goals as goal

pub returns : goal.returns
returns g c =
    let event = event_of c.args.event in
    let made : c.finish.new.self ≡ step g.P.Protocol.meaning g.P.Frame.Framing.size event c.args.self.now =
    finished_is g.P.Protocol.meaning g.P.Client.Renews.fresh g.P.Frame.Framing.size g.met.P.Protocol.lawful event c.args.self.now c.finish.new.self (c.finish.ensures ∙ ap (finished g.P.Protocol.meaning g.P.Frame.Framing.size) c.meet.ensures)
    in
    record {
      stands = λ setup events serves S. step_stands g.P.Protocol.meaning g.P.Client.Renews.fresh g.P.Frame.Framing.size g.met.P.Protocol.lawful event c.args.self.now c.finish.new.self made c.requires setup events serves S;
      bounded = λ setup events serves S. step_bounded g.P.Protocol.meaning g.P.Client.Renews.fresh g.P.Frame.Framing.size g.met.P.Protocol.lawful event c.args.self.now c.finish.new.self made c.requires setup events serves S;
      lasting = step_lasts g.P.Protocol.meaning g.P.Client.Renews.fresh g.P.Frame.Framing.size g.met.P.Protocol.lawful event c.args.self.now c.finish.new.self made;
      step = made;
      greatest = step_greatest g.P.Protocol.meaning g.P.Client.Renews.fresh g.P.Frame.Framing.size g.met.P.Protocol.lawful event c.args.self.now c.finish.new.self made;
    }
