use Rattle.std.proofs.Common.{ap, sym, ◌∙◌}
use Rattle.std.proofs.lemmas.Bool.{not-true, not-false}
use Rattle.proxy_core.specs.Meaning.{state_of}
use Rattle.proxy_core.proofs.Events.{core_of, unheard, good, bad}
use Rattle.proxy_core.proofs.proxy.Core.bring_modem.Goals as goal

pub returns-then-away : goal.returns-then-away
returns-then-away g c = rw (← c.self.view_is) (unheard g.P.Protocol.meaning g.P.Client.Renews.fresh g.P.Frame.Framing.size g.met.P.Protocol.lawful (core_of (state_of c.self.inside.connections c.self.inside.side) c.self.inside.cutter.rest) c.args.piece.now (sym c.away.ensures ∙ c.if-away.true))

pub returns-then-not-hear_all : goal.returns-then-not-hear_all
returns-then-not-hear_all g c =
    rw (← c.self.view_is)
    (bad g.P.Protocol.meaning g.P.Client.Renews.fresh g.P.Frame.Framing.size g.met.P.Protocol.lawful (core_of (state_of c.self.inside.connections c.self.inside.side) c.self.inside.cutter.rest) c.args.piece.now c.push.new.self.rest (sym c.away.ensures ∙ c.if-away.false) (ap (λ r. r.rest) c.push.ensures.pushed) (state_of c.hear_all.new.connections c.hear_all.new.side) c.hear_all.ensures.heard
    c.lose.new.self c.restart.new.self.rest (not-false _ (sym c.hear_all.ensures.good ∙ c.if-not-hear_all.true)) c.lose.ensures)

pub returns-else-not-hear_all : goal.returns-else-not-hear_all
returns-else-not-hear_all g c =
    rw (← c.self.view_is)
    (good g.P.Protocol.meaning g.P.Client.Renews.fresh g.P.Frame.Framing.size g.met.P.Protocol.lawful (core_of (state_of c.self.inside.connections c.self.inside.side) c.self.inside.cutter.rest) c.args.piece.now c.push.new.self.rest (sym c.away.ensures ∙ c.if-away.false) (ap (λ r. r.rest) c.push.ensures.pushed) (state_of c.hear_all.new.connections c.hear_all.new.side) c.hear_all.ensures.heard
    c.hear_all.new.cutter.rest (not-true _ (sym c.hear_all.ensures.good ∙ c.if-not-hear_all.false)) (c.hear_all.ensures.rest c.if-not-hear_all.false).0)
