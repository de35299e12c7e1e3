use Rattle.many_serving.specs.Proxy.{ManyProxy}
use Rattle.std.proofs.Common.{ℕ, length}
use Rattle.serving_loop.specs.Carrying.{Carries}
use Rattle.serving_loop.specs.Face.{SameAway}
use Rattle.hub_io.specs.Record.{Since}
use Rattle.serving_loop.specs.Same.{IsAsBefore}
use Rattle.serving_loop.specs.Progress.{IsServing, AreHangUps}
use Rattle.serving_loop.proofs.offer.hang_up_dropped.Given as goal

abbrev pub invariant-loop-dropped : goal.invariant-loop-dropped
invariant-loop-dropped g l = record {
  carried : (p : ManyProxy) (turns : ℕ) → Carries (g.H.ManyHub.calls l.initial.hub) (IsServing g.C.ManyProxyCore.keeps g.C.ManyProxyCore.face p turns l.initial.server) (g.H.ManyHub.calls l.hub) (IsServing g.C.ManyProxyCore.keeps g.C.ManyProxyCore.face p turns l.server);
  only : Since (g.H.ManyHub.calls l.initial.hub) (g.H.ManyHub.calls l.hub) AreHangUps;
  same : IsAsBefore g.C.ManyProxyCore.keeps g.C.ManyProxyCore.face g.H.ManyHub.faults g.H.ManyHub.greatest g.H.ManyHub.devices l.initial.server.core l.server.core l.initial.hub l.hub;
  away : SameAway (g.C.ManyProxyCore.face l.initial.server.core) (g.C.ManyProxyCore.face l.server.core);
}

abbrev pub decreases-loop-dropped : goal.decreases-loop-dropped
decreases-loop-dropped g l = length (g.C.ManyProxyCore.face l.server.core).dropped
