use Rattle.many_serving.specs.Proxy.{ManyProxy}
use Rattle.std.proofs.Common.{◌≡◌, ◌≤◌, [], length}
use Rattle.serving_loop.specs.Carrying.{Carries}
use Rattle.serving_loop.specs.Cores.{IsKnown}
use Rattle.serving_loop.specs.Progress.{IsReady}
use Rattle.serving_loop.proofs.serving.take_turns.Given as goal

abbrev pub invariant-loop : goal.invariant-loop
invariant-loop g l = record {
  carried : (p : ManyProxy) → Carries (g.H.ManyHub.calls l.initial.hub) (IsReady g.C.ManyProxyCore.keeps g.C.ManyProxyCore.face p l.until 0 l.initial.server) (g.H.ManyHub.calls l.hub) (IsReady g.C.ManyProxyCore.keeps g.C.ManyProxyCore.face p l.until l.counter l.server);
  asked : (g.C.ManyProxyCore.face l.server.core).dropped ≡ [];
  known : IsKnown g.C.ManyProxyCore.keeps l.server.core;
  devices : (g.C.ManyProxyCore.face l.server.core).devices ≡ (g.C.ManyProxyCore.face l.initial.server.core).devices;
  hub : g.H.ManyHub.devices l.hub ≡ g.H.ManyHub.devices l.initial.hub;
  greatest : (g.C.ManyProxyCore.face l.server.core).greatest ≤ g.H.ManyHub.greatest l.hub;
  later : g.H.ManyHub.faults l.initial.hub ≤ g.H.ManyHub.faults l.hub;
  room : length l.buffer ≡ 16384;
  within : l.counter ≤ l.turns;
}
