use Rattle.std.proofs.Common.{sym, ap, ◌∙◌}
use Rattle.proxy_history.specs.Events.{ModemBack}
use Rattle.proxy_core.specs.Core.{meet}
use Rattle.proxy_core.specs.Meaning.{state_of}
use Rattle.proxy_core.proofs.Events.{core_of, regained, not_regained}
use Rattle.proxy_core.proofs.proxy.Core.regain_modem.Goals as goal

pub invariant_of-self : goal.invariant_of-self
invariant_of-self g c = record { agrees = record { limit = c.self.invariant.agrees.limit; clients = c.regain.ensures.agrees _ c.self.invariant.agrees.clients }; partial = c.self.invariant.partial }

pub returns-then-away : goal.returns-then-away
returns-then-away g c = regained g.P.Protocol.meaning g.P.Client.Renews.fresh g.P.Frame.Framing.size g.met.P.Protocol.lawful (core_of (state_of c.self.inside.connections c.self.inside.side) c.self.inside.cutter.rest) c.regain.new.side (sym c.away.ensures ∙ c.if-away.true) c.regain.ensures.beside ∙ ap (meet g.P.Protocol.meaning g.P.Frame.Framing.size ModemBack) c.self.view_is

pub returns-else-away : goal.returns-else-away
returns-else-away g c = rw (← c.self.view_is) (not_regained g.P.Protocol.meaning g.P.Client.Renews.fresh g.P.Frame.Framing.size g.met.P.Protocol.lawful (core_of (state_of c.self.inside.connections c.self.inside.side) c.self.inside.cutter.rest) (sym c.away.ensures ∙ c.if-away.false))
