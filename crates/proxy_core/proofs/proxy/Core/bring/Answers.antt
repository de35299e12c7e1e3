use Rattle.std.proofs.Common.{ap, ◌∙◌}
use Rattle.proxy_history.specs.Events.{Piece}
use Rattle.proxy_core.specs.Core.{meet}
use Rattle.proxy_core.proofs.Events.{core_of}
use Rattle.proxy_core.proofs.proxy.Core.bring.Goals as goal

pub returns : goal.returns
returns g c = ap (λ x. core_of x c.self.inside.cutter.rest) c.bring.ensures.brought ∙ ap (meet g.P.Protocol.meaning g.P.Frame.Framing.size (Piece c.args.name c.args.piece.now)) c.self.view_is
