use Rattle.many_serving.specs.Proxy.{ManyProxy}
use Rattle.std.proofs.Common.{◌≡◌, ◌<◌, ℕ, []}
use Rattle.hub_io.specs.declared.settings.Until.{Until}
use Rattle.serving_loop.specs.Carrying.{Carries}
use Rattle.serving_loop.specs.Same.{IsAsBefore}
use Rattle.serving_loop.specs.Progress.{OffersModems, StayAway}
use Rattle.serving_loop.proofs.offer.offer_modem.Given as goal

abbrev pub invariant-loop-device : goal.invariant-loop-device
invariant-loop-device g l = record {
  carried : (p : ManyProxy) (until : Until) (turns : ℕ) →
      Carries (g.H.ManyHub.calls l.initial.hub) (OffersModems g.C.ManyProxyCore.keeps g.C.ManyProxyCore.face p until turns l.device l.initial.server) (g.H.ManyHub.calls l.hub) (OffersModems g.C.ManyProxyCore.keeps g.C.ManyProxyCore.face p until turns l.device l.server);
  asked : (g.C.ManyProxyCore.face l.server.core).dropped ≡ [];
  same : IsAsBefore g.C.ManyProxyCore.keeps g.C.ManyProxyCore.face g.H.ManyHub.faults g.H.ManyHub.greatest g.H.ManyHub.devices l.initial.server.core l.server.core l.initial.hub l.hub;
  stays : StayAway (g.C.ManyProxyCore.face l.initial.server.core) (g.C.ManyProxyCore.face l.server.core);
  within : l.device < (g.C.ManyProxyCore.face l.server.core).devices;
}

abbrev pub decreases-loop-device : goal.decreases-loop-device
decreases-loop-device g l = (g.C.ManyProxyCore.face l.server.core).modem_backlog l.device
