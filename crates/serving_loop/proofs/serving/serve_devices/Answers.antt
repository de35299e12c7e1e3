use Rattle.std.proofs.Common.{◌≡◌, List, [], refl, sym, subst}
use Rattle.many_history.specs.Events.{ManyEvent}
use Rattle.serving_loop.proofs.Carrying.{since-carried}
use Rattle.many_serving.specs.Proxy.{ManyProxy}
use Rattle.serving_loop.specs.Face.{ManyFace}
use Rattle.serving_loop.specs.Cores.{Shows, IsKnown}
use Rattle.serving_loop.specs.Progress.{IsOpened}
use Rattle.serving_loop.specs.declared.server.Server.{Server}
use Rattle.serving_loop.proofs.Turns.{opened-ready}
use Rattle.serving_loop.proofs.serving.serve_devices.Goals as goal

-- nothing has happened yet
opened : {C : Type 0} (keeps : ManyProxy → List ManyEvent → C → Type 0) (face : C → ManyFace) (p : ManyProxy) (core : C) (server : Server C) → server ≡ record { core = core; blocked = []; modems = []; emptied = 0 } → keeps p [] core → Shows p [] (face core) → IsOpened keeps face p server
opened {C = C} keeps face p core server is kept shows =
    let P : Server C → Type 0 = λ s. IsOpened keeps face p s in
    subst P (sym is) (record { stands = record { kept = kept; shows = shows }; blocked = refl; modems = refl; emptied = refl })

pub take_turns-requires-clause-known : goal.take_turns-requires-clause-known
take_turns-requires-clause-known g c =
    let Known : Server (g.row.C.Denot) → Type 0 = λ s. IsKnown g.C.ManyProxyCore.keeps s.core in
    subst Known (sym c.open-server.ensures) (record { proxy = c.requires.opened.0; past = []; kept = c.requires.opened.1 })

pub take_turns-requires-clause-asked : goal.take_turns-requires-clause-asked
take_turns-requires-clause-asked g c =
    let Asked : Server (g.row.C.Denot) → Type 0 = λ s. (g.C.ManyProxyCore.face s.core).dropped ≡ [] in
    let shows = g.met.C.ManyProxyCore.shows c.requires.opened.0 [] c.args.core c.requires.opened.1 in
    subst Asked (sym c.open-server.ensures) (shows.dropped shows.lawful.none_dropped)

pub take_turns-requires-clause-hub : goal.take_turns-requires-clause-hub
take_turns-requires-clause-hub g c =
    let Same : Server (g.row.C.Denot) → Type 0 = λ s. g.H.ManyHub.devices c.args.hub.now ≡ (g.C.ManyProxyCore.face s.core).devices in
    subst Same (sym c.open-server.ensures) c.requires.hub

pub returns-in-Ok-clause-served : goal.returns-in-Ok-clause-served
returns-in-Ok-clause-served g c = λ p kept.
    let start = opened g.C.ManyProxyCore.keeps g.C.ManyProxyCore.face p c.args.core c.open-server.result c.open-server.ensures kept (g.met.C.ManyProxyCore.shows p [] c.args.core kept) in
    since-carried _ _ (opened-ready c.args.until start) (c.in-Ok.ensures.carries p)

pub returns-clause-served : goal.returns-clause-served
returns-clause-served g c = λ p kept.
    let start = opened g.C.ManyProxyCore.keeps g.C.ManyProxyCore.face p c.args.core c.open-server.result c.open-server.ensures kept (g.met.C.ManyProxyCore.shows p [] c.args.core kept) in
    since-carried _ _ (opened-ready c.args.until start) (c.in-Err.ensures.carries p)
