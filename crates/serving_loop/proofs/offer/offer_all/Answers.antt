use Rattle.many_serving.specs.Proxy.{ManyProxy}
use Rattle.std.proofs.Common.{◌≡◌, ℕ, List, ◌++◌, Bool, true, false, ap, sym, subst, ◌∙◌, arith, Option}
use Rattle.hub_io.specs.Record.{Since}
use Rattle.hub_io.specs.declared.settings.Until.{Until}
use Rattle.many_history.specs.Events.{ManyEvent}
use Rattle.many_io.specs.Record.{ManyCall}
use Rattle.many_serving.specs.Ends.{hanging_up}
use Rattle.serving_loop.specs.Carrying.{Carries}
use Rattle.serving_loop.specs.Face.{ManyFace}
use Rattle.serving_loop.specs.Progress.{HasOffered, IsServing, AfterModems, AreHangUps}
use Rattle.serving_loop.specs.declared.server.Server.{Server}
use Rattle.serving_loop.proofs.Carrying.{Carries-none, Carries-then, Carries-with}
use Rattle.serving_loop.proofs.Same.{as_before-then}
use Rattle.serving_loop.proofs.Away.{same_there}
use Rattle.serving_loop.proofs.Turns.{offered-hangs}
use Rattle.serving_loop.proofs.offer.offer_all.Goals as goal

-- all modems are there as before, or they aren't
modems_as : {C : Type 0} (keeps : ManyProxy → List ManyEvent → C → Type 0) (face : C → ManyFace) {before : List ManyCall → Type 0} {old new : Option (List ManyCall)} (p : ManyProxy) (until : Until) (turns : ℕ) (now : Server C) (b came : Bool) → b ≡ came
    → Carries old before new (AfterModems keeps face b p until turns now) → Carries old before new (AfterModems keeps face came p until turns now)
modems_as keeps face {before = before} {old = old} {new = new} p until turns now b came is carries =
    let P : Bool → Type 0 = λ o. Carries old before new (AfterModems keeps face o p until turns now) in subst P is carries

-- those that were dropped with a modem are hung up
hung_up_then : {C : Type 0} (keeps : ManyProxy → List ManyEvent → C → Type 0) (face : C → ManyFace) (p : ManyProxy) (until : Until) (turns : ℕ) (server now : Server C) (calls : List ManyCall)
    → ((earlier : List ManyCall) × (later : List ManyCall) × (calls ≡ later ++ earlier) × AreHangUps later × HasOffered keeps face p until turns 0 server earlier × IsServing keeps face p turns now calls)
    → HasOffered keeps face p until turns 0 now calls
hung_up_then keeps face p until turns server now calls all =
    let whole : calls ≡ hanging_up all.3.0 ++ all.0 = all.2 ∙ ap (λ (l : List ManyCall). l ++ all.0) all.3.1 in
    let Serving : List ManyCall → Type 0 = IsServing keeps face p turns now in
    let Offered : List ManyCall → Type 0 = HasOffered keeps face p until turns 0 now in
    subst Offered (sym whole) (offered-hangs all.3.0 all.4 (subst Serving whole all.5))

-- a modem is gone, and those that were dropped with it are hung up
gone : {C : Type 0} (keeps : ManyProxy → List ManyEvent → C → Type 0) (face : C → ManyFace) {start mid new : Option (List ManyCall)} {before : List ManyCall → Type 0} (p : ManyProxy) (until : Until) (turns : ℕ) (server now : Server C)
    → Carries start before mid (HasOffered keeps face p until turns 0 server) → Since mid new AreHangUps → Carries mid (IsServing keeps face p turns server) new (IsServing keeps face p turns now)
    → Carries start before new (HasOffered keeps face p until turns 0 now)
gone keeps face p until turns server now first only hangs =
    let Gone : List ManyCall → Type 0 = HasOffered keeps face p until turns 0 server in
    let Serving : List ManyCall → Type 0 = IsServing keeps face p turns server in
    Carries-then first
    (Carries-then (Carries-with AreHangUps _ _ only (Carries-then (Carries-none Gone Serving _ (λ calls so. so.serving)) hangs))
    (Carries-none _ _ _ (λ calls all. hung_up_then keeps face p until turns server now calls all)))

pub loop-hub-preserved : goal.loop-hub-preserved
loop-hub-preserved g c =
    let i = c.loop-hub.invariant in
    let clients = c.offer_clients.ensures in
    let modems = c.offer_modems.ensures in
    let hangs = c.hang_up_dropped.ensures in
    record {
      carried = λ p until turns.
          gone g.C.ManyProxyCore.keeps g.C.ManyProxyCore.face p until turns c.offer_modems.new.server c.hang_up_dropped.new.server
          (Carries-then (Carries-then (i.carried p until turns) (clients.carries p until turns))
          (modems_as g.C.ManyProxyCore.keeps g.C.ManyProxyCore.face p until turns c.offer_modems.new.server c.offer_modems.result false c.if-offer_modems.false (modems.carries p until turns)))
          hangs.only (hangs.carries p turns);
      asked = hangs.asked;
      same = as_before-then i.same (as_before-then clients.same (as_before-then modems.same hangs.same));
    }

pub loop-hub-smaller : goal.loop-hub-smaller
loop-hub-smaller g c =
    let less = c.offer_modems.ensures.fewer c.if-offer_modems.false in
    let clients = same_there c.offer_clients.ensures.same.devices c.offer_clients.ensures.away in
    let hangs = same_there c.hang_up_dropped.ensures.same.devices c.hang_up_dropped.ensures.away in
    omega (arith, less, clients, hangs)

pub returns-then-offer_modems-clause-carries : goal.returns-then-offer_modems-clause-carries
returns-then-offer_modems-clause-carries g c = λ p until turns.
    Carries-then (Carries-then (c.loop-hub.invariant.carried p until turns) (c.offer_clients.ensures.carries p until turns))
    (modems_as g.C.ManyProxyCore.keeps g.C.ManyProxyCore.face p until turns c.offer_modems.new.server c.offer_modems.result true c.if-offer_modems.true (c.offer_modems.ensures.carries p until turns))
