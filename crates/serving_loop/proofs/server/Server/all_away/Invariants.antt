use Rattle.std.proofs.Common.{◌≡◌, true}
use Rattle.many_serving.specs.Ends.{are_away}
use Rattle.serving_loop.proofs.server.Server.all_away.Given as goal

abbrev pub invariant-loop-device : goal.invariant-loop-device
invariant-loop-device g l = are_away (g.C.ManyProxyCore.face l.self.core).away l.device ≡ true
