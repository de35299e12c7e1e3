use Rattle.std.proofs.Common.{ap, ◌∙◌}
use Rattle.proxy_history.specs.Events.{ModemTook}
use Rattle.proxy_core.specs.Core.{meet}
use Rattle.proxy_core.specs.Meaning.{state_of}
use Rattle.proxy_core.proofs.Events.{core_of}
use Rattle.proxy_core.proofs.proxy.Core.take_modem.Goals as goal

pub invariant_of-self : goal.invariant_of-self
invariant_of-self g c = record { agrees = record { limit = c.self.invariant.agrees.limit; clients = c.take_modem.ensures.agrees _ c.self.invariant.agrees.clients }; partial = c.self.invariant.partial }

pub returns : goal.returns
returns g c = ap (λ b. core_of (state_of c.self.inside.connections b) c.self.inside.cutter.rest) c.take_modem.ensures.beside ∙ ap (meet g.P.Protocol.meaning g.P.Frame.Framing.size (ModemTook c.args.count)) c.self.view_is
