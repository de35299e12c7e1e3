use Rattle.std.proofs.Common.{sym, ◌∙◌}
use Rattle.proxy_core.specs.Meaning.{state_of}
use Rattle.proxy_core.proofs.Events.{core_of, lost, not_lost}
use Rattle.proxy_core.proofs.proxy.Core.lose_modem.Goals as goal

pub returns-then-not-away : goal.returns-then-not-away
returns-then-not-away g c = lost g.P.Protocol.meaning g.P.Client.Renews.fresh g.P.Frame.Framing.size g.met.P.Protocol.lawful c.args.self.now c.lose.new.self (rw (← c.self.view_is) (sym c.away.ensures ∙ c.if-not-away.true)) c.lose.ensures

pub returns-else-not-away : goal.returns-else-not-away
returns-else-not-away g c = rw (← c.self.view_is) (not_lost g.P.Protocol.meaning g.P.Client.Renews.fresh g.P.Frame.Framing.size g.met.P.Protocol.lawful (core_of (state_of c.self.inside.connections c.self.inside.side) c.self.inside.cutter.rest) (sym c.away.ensures ∙ c.if-not-away.false))
