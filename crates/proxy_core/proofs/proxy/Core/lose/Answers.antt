use Rattle.std.proofs.Common.{[], ap, ◌∙◌}
use Rattle.proxy_core.specs.Core.{lose}
use Rattle.proxy_core.specs.Meaning.{state_of}
use Rattle.proxy_core.proofs.Events.{core_of}
use Rattle.proxy_core.proofs.proxy.Core.lose.Goals as goal

pub returns : goal.returns
returns g c =
    let left = state_of c.lose.new.connections c.lose.new.side in
    ap (core_of left) (ap (λ r. r.rest) c.restart.ensures) ∙ ap (λ x. core_of x []) c.lose.ensures.lost ∙ ap (lose g.P.Protocol.meaning g.P.Frame.Framing.size) c.self.view_is
