use Rattle.std.proofs.Common.{ap, ◌∙◌}
use Rattle.proxy_history.specs.Events.{Took}
use Rattle.proxy_core.specs.Core.{meet}
use Rattle.proxy_core.specs.Meaning.{state_of}
use Rattle.proxy_core.proofs.Clients.{took_agrees}
use Rattle.proxy_core.proofs.Events.{core_of}
use Rattle.proxy_core.proofs.proxy.Core.take.Goals as goal

pub invariant_of-self : goal.invariant_of-self
invariant_of-self g c = record { agrees = took_agrees g.P.Protocol.meaning c.self.invariant.agrees c.args.name c.args.count c.take.new.self c.take.ensures; partial = c.self.invariant.partial }

pub returns : goal.returns
returns g c = ap (λ t. core_of (state_of t c.self.inside.side) c.self.inside.cutter.rest) c.take.ensures ∙ ap (meet g.P.Protocol.meaning g.P.Frame.Framing.size (Took c.args.name c.args.count)) c.self.view_is
