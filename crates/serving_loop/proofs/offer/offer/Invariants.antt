use Rattle.many_serving.specs.Proxy.{ManyProxy}
use Rattle.std.proofs.Common.{◌≡◌, ℕ, [], true, length}
use Rattle.proxy_history.specs.Connections.{contains}
use Rattle.serving_loop.specs.Carrying.{Carries}
use Rattle.serving_loop.specs.Face.{SameAway}
use Rattle.serving_loop.specs.Same.{IsAsBefore}
use Rattle.serving_loop.specs.Progress.{IsAt}
use Rattle.serving_loop.proofs.offer.offer.Given as goal
use Rattle.hub_io.specs.declared.settings.Until.{Until}

abbrev pub invariant-loop-conn : goal.invariant-loop-conn
invariant-loop-conn g l = record {
  carried : (p : ManyProxy) (until : Until) (turns : ℕ) →
      Carries (g.H.ManyHub.calls l.initial.hub) (IsAt g.C.ManyProxyCore.keeps g.C.ManyProxyCore.face p until turns l.place l.conn l.initial.server) (g.H.ManyHub.calls l.hub) (IsAt g.C.ManyProxyCore.keeps g.C.ManyProxyCore.face p until turns l.place l.conn l.server);
  asked : (g.C.ManyProxyCore.face l.server.core).dropped ≡ [];
  there : contains l.conn (g.C.ManyProxyCore.face l.server.core).present ≡ true;
  many : length (g.C.ManyProxyCore.face l.server.core).present ≡ length (g.C.ManyProxyCore.face l.initial.server.core).present;
  same : IsAsBefore g.C.ManyProxyCore.keeps g.C.ManyProxyCore.face g.H.ManyHub.faults g.H.ManyHub.greatest g.H.ManyHub.devices l.initial.server.core l.server.core l.initial.hub l.hub;
  away : SameAway (g.C.ManyProxyCore.face l.initial.server.core) (g.C.ManyProxyCore.face l.server.core);
}

abbrev pub decreases-loop-conn : goal.decreases-loop-conn
decreases-loop-conn g l = length ((g.C.ManyProxyCore.face l.server.core).queue l.conn)
