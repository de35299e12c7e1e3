use Rattle.std.proofs.Common.{ap, ◌∙◌}
use Rattle.proxy_history.specs.Events.{Now}
use Rattle.proxy_core.specs.Core.{meet}
use Rattle.proxy_core.proofs.Events.{core_of}
use Rattle.proxy_core.proofs.proxy.Core.tick.Goals as goal

pub returns : goal.returns
returns g c = ap (λ x. core_of x c.self.inside.cutter.rest) c.tick.ensures.shown ∙ ap (meet g.P.Protocol.meaning g.P.Frame.Framing.size (Now c.args.time)) c.self.view_is
