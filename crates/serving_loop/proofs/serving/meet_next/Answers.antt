use Rattle.std.proofs.Common.{List, refl, subst, sym}
use Rattle.serving_loop.specs.Carrying.{Carries}
use Rattle.many_io.specs.Record.{ManyCall}
use Rattle.serving_loop.proofs.Carrying.{Carries-none}
use Rattle.serving_loop.specs.Progress.{HasTold, AfterMeeting, call_of}
use Rattle.serving_loop.specs.declared.told_event.ToldEvent.{ToldEvent}
use Rattle.serving_loop.specs.declared.server.Server.{Server}
use Rattle.serving_loop.proofs.Turns.{told-room, told-modem_room, told-stop}
use Rattle.serving_loop.proofs.serving.meet_next.Goals as goal

pub returns-in-Room-clause-carries : goal.returns-in-Room-clause-carries
returns-in-Room-clause-carries g c = λ p turns.
    let none = c.requires.asked in
    let now : Server (g.row.C.Denot) = record { core = c.args.server.now.core; blocked = c.remove.new.self; modems = c.args.server.now.modems; emptied = c.args.server.now.emptied } in
    let Told : List ManyCall → ToldEvent → Type 0 = λ calls n. HasTold g.C.ManyProxyCore.keeps g.C.ManyProxyCore.face p c.args.until turns c.args.server.now (call_of n) calls in
    Carries-none _ _ _ (λ calls has. told-room c.in-Room.conn now none (subst (Told calls) c.in-Room.is has) refl c.remove.ensures refl refl)

pub returns-in-ModemRoom-clause-carries : goal.returns-in-ModemRoom-clause-carries
returns-in-ModemRoom-clause-carries g c = λ p turns.
    let none = c.requires.asked in
    let Told : List ManyCall → ToldEvent → Type 0 = λ calls n. HasTold g.C.ManyProxyCore.keeps g.C.ManyProxyCore.face p c.args.until turns c.args.server.now (call_of n) calls in
    let now : Server (g.row.C.Denot) = record { core = c.args.server.now.core; blocked = c.args.server.now.blocked; modems = c.remove-in-ModemRoom.new.self; emptied = c.args.server.now.emptied } in
    Carries-none _ _ _ (λ calls has. told-modem_room c.in-ModemRoom.device now none (subst (Told calls) c.in-ModemRoom.is has) refl refl c.remove-in-ModemRoom.ensures refl)

pub returns-in-Stop-clause-carries : goal.returns-in-Stop-clause-carries
returns-in-Stop-clause-carries g c = λ p turns.
    let Told : List ManyCall → ToldEvent → Type 0 = λ calls n. HasTold g.C.ManyProxyCore.keeps g.C.ManyProxyCore.face p c.args.until turns c.args.server.now (call_of n) calls in
    let none = c.requires.asked in
    Carries-none _ _ _ (λ calls has. told-stop none (subst (Told calls) c.in-Stop.is has))

pub returns-in-Event-clause-carries : goal.returns-in-Event-clause-carries
returns-in-Event-clause-carries g c = λ p turns.
    let Met : ToldEvent → Type 0 = λ n. Carries (g.H.ManyHub.calls c.args.hub.now) (HasTold g.C.ManyProxyCore.keeps g.C.ManyProxyCore.face p c.args.until turns c.args.server.now (call_of n)) (g.H.ManyHub.calls c.meet_event.new.hub) (AfterMeeting g.C.ManyProxyCore.keeps g.C.ManyProxyCore.face g.C.ManyProxyCore.lacks_memory c.meet_event.result p c.args.until turns c.meet_event.new.server) in
    subst Met (sym c.in-Event.is) (c.meet_event.ensures.carries p turns)
