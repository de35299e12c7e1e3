use Rattle.many_serving.specs.Proxy.{ManyProxy}
use Rattle.std.proofs.Common.{◌≡◌, ℕ, []}
use Rattle.hub_io.specs.declared.settings.Until.{Until}
use Rattle.serving_loop.specs.Carrying.{Carries}
use Rattle.serving_loop.specs.Same.{IsAsBefore}
use Rattle.serving_loop.specs.Server.{devices_there}
use Rattle.serving_loop.specs.Progress.{HasOffered}
use Rattle.serving_loop.proofs.offer.offer_all.Given as goal

abbrev pub invariant-loop-hub : goal.invariant-loop-hub
invariant-loop-hub g l = record {
  carried : (p : ManyProxy) (until : Until) (turns : ℕ) →
      Carries (g.H.ManyHub.calls l.initial.hub) (HasOffered g.C.ManyProxyCore.keeps g.C.ManyProxyCore.face p until turns 0 l.initial.server) (g.H.ManyHub.calls l.hub) (HasOffered g.C.ManyProxyCore.keeps g.C.ManyProxyCore.face p until turns 0 l.server);
  asked : (g.C.ManyProxyCore.face l.server.core).dropped ≡ [];
  same : IsAsBefore g.C.ManyProxyCore.keeps g.C.ManyProxyCore.face g.H.ManyHub.faults g.H.ManyHub.greatest g.H.ManyHub.devices l.initial.server.core l.server.core l.initial.hub l.hub;
}

abbrev pub decreases-loop-hub : goal.decreases-loop-hub
decreases-loop-hub g l = let face = g.C.ManyProxyCore.face l.server.core in devices_there face.away face.devices
