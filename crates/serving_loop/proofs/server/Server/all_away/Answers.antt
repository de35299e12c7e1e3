use Rattle.std.proofs.Common.{◌≡◌, sym, ◌∙◌, ap, arith}
use Rattle.many_serving.specs.Ends.{are_away}
use Rattle.serving_loop.proofs.Away.{one_more_away, not_all_away}
use Rattle.serving_loop.proofs.server.Server.all_away.Goals as goal

pub loop-device-preserved : goal.loop-device-preserved
loop-device-preserved g c = one_more_away (g.C.ManyProxyCore.face c.args.self.now.core).away c.loop-device.device (sym c.away.ensures ∙ c.if-not-away.false) c.loop-device.invariant

pub returns-then-not-away : goal.returns-then-not-away
returns-then-not-away g c =
    sym (not_all_away (g.C.ManyProxyCore.face c.args.self.now.core).away (g.C.ManyProxyCore.face c.args.self.now.core).devices c.loop-device.device (omega arith) (sym c.away.ensures ∙ c.if-not-away.true))

pub returns : goal.returns
returns g c =
    let all : c.loop-device.device ≡ (g.C.ManyProxyCore.face c.args.self.now.core).devices = omega arith in
    sym (ap (are_away (g.C.ManyProxyCore.face c.args.self.now.core).away) (sym all) ∙ c.loop-device.invariant)
