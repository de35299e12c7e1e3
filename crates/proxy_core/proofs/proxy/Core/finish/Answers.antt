use Rattle.std.proofs.Common.{ap, ◌∙◌}
use Rattle.proxy_core.specs.Core.{finished}
use Rattle.proxy_core.proofs.Events.{core_of}
use Rattle.proxy_core.proofs.proxy.Core.finish.Goals as goal

pub returns : goal.returns
returns g c = ap (λ x. core_of x c.self.inside.cutter.rest) c.finish.ensures.finished ∙ ap (finished g.P.Protocol.meaning g.P.Frame.Framing.size) c.self.view_is
