use Rattle.many_serving.specs.Proxy.{ManyProxy}
use Rattle.std.proofs.Common.{◌≡◌, ◌≤◌, ◌-◌, ℕ, [], length}
use Rattle.serving_loop.specs.Carrying.{Carries}
use Rattle.serving_loop.specs.Face.{SameAway}
use Rattle.serving_loop.specs.Same.{IsAsBefore}
use Rattle.serving_loop.specs.Progress.{HasOffered}
use Rattle.serving_loop.proofs.offer.offer_clients.Given as goal
use Rattle.hub_io.specs.declared.settings.Until.{Until}

abbrev pub invariant-loop-place : goal.invariant-loop-place
invariant-loop-place g l = record {
  carried : (p : ManyProxy) (until : Until) (turns : ℕ) →
      Carries (g.H.ManyHub.calls l.initial.hub) (HasOffered g.C.ManyProxyCore.keeps g.C.ManyProxyCore.face p until turns 0 l.initial.server) (g.H.ManyHub.calls l.hub) (HasOffered g.C.ManyProxyCore.keeps g.C.ManyProxyCore.face p until turns l.from l.server);
  asked : (g.C.ManyProxyCore.face l.server.core).dropped ≡ [];
  within : l.from ≤ length (g.C.ManyProxyCore.face l.server.core).present;
  same : IsAsBefore g.C.ManyProxyCore.keeps g.C.ManyProxyCore.face g.H.ManyHub.faults g.H.ManyHub.greatest g.H.ManyHub.devices l.initial.server.core l.server.core l.initial.hub l.hub;
  away : SameAway (g.C.ManyProxyCore.face l.initial.server.core) (g.C.ManyProxyCore.face l.server.core);
}

abbrev pub decreases-loop-place : goal.decreases-loop-place
decreases-loop-place g l = length (g.C.ManyProxyCore.face l.server.core).present - l.from
