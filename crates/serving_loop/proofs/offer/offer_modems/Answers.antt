use Rattle.std.proofs.Common.{◌≡◌, ℕ, List, Bool, true, false, ap, subst, ◌∙◌, arith, Option}
use Rattle.hub_io.specs.declared.settings.Until.{Until}
use Rattle.many_history.specs.Events.{ManyEvent}
use Rattle.many_io.specs.Record.{ManyCall}
use Rattle.many_serving.specs.Proxy.{ManyProxy}
use Rattle.serving_loop.specs.Carrying.{Carries}
use Rattle.serving_loop.specs.Face.{ManyFace}
use Rattle.serving_loop.specs.Server.{devices_there}
use Rattle.serving_loop.specs.Progress.{AfterModem}
use Rattle.serving_loop.specs.declared.server.Server.{Server}
use Rattle.serving_loop.proofs.Away.{stays-none, stays-then, fewer_there, no_more_there}
use Rattle.serving_loop.proofs.Same.{as_before-none, as_before-then}
use Rattle.serving_loop.proofs.Carrying.{Carries-none, Carries-then}
use Rattle.serving_loop.proofs.Modem.{modems-ready}
use Rattle.serving_loop.proofs.offer.offer_modems.Goals as goal

-- the modem is there as before, or it isn't
modem_as : {C : Type 0} (keeps : ManyProxy → List ManyEvent → C → Type 0) (face : C → ManyFace) {before : List ManyCall → Type 0} {old new : Option (List ManyCall)} (p : ManyProxy) (until : Until) (turns device : ℕ) (now : Server C) (b came : Bool) → b ≡ came
    → Carries old before new (AfterModem keeps face b p until turns device now) → Carries old before new (AfterModem keeps face came p until turns device now)
modem_as keeps face {before = before} {old = old} {new = new} p until turns device now b came is carries =
    let P : Bool → Type 0 = λ o. Carries old before new (AfterModem keeps face o p until turns device now) in subst P is carries

pub loop-device-init : goal.loop-device-init
loop-device-init g c = record {
  carried = λ p until turns. Carries-none _ _ _ (λ calls all. all);
  asked = c.requires.asked;
  same = as_before-none c.requires.known;
  stays = stays-none _;
  within = omega arith;
}

pub loop-device-preserved : goal.loop-device-preserved
loop-device-preserved g c =
    let i = c.loop-device.invariant in
    let there = c.if-not-offer_modem.false in
    let offered = c.offer_modem.ensures in
    record {
      carried = λ p until turns.
          Carries-then (i.carried p until turns)
          (modem_as g.C.ManyProxyCore.keeps g.C.ManyProxyCore.face p until turns c.loop-device.device c.offer_modem.new.server c.offer_modem.result true there (offered.carries p until turns));
      asked = offered.asked there;
      same = as_before-then i.same offered.same;
      stays = stays-then i.same.devices i.stays offered.away;
      within = omega arith;
    }

-- one is gone
pub returns-then-not-offer_modem-clause-carries : goal.returns-then-not-offer_modem-clause-carries
returns-then-not-offer_modem-clause-carries g c = λ p until turns.
    Carries-then (c.loop-device.invariant.carried p until turns)
    (modem_as g.C.ManyProxyCore.keeps g.C.ManyProxyCore.face p until turns c.loop-device.device c.offer_modem.new.server c.offer_modem.result false c.if-not-offer_modem.true (c.offer_modem.ensures.carries p until turns))

pub returns-then-not-offer_modem-clause-fewer : goal.returns-then-not-offer_modem-clause-fewer
returns-then-not-offer_modem-clause-fewer g c = λ is.
    let i = c.loop-device.invariant in
    let offered = c.offer_modem.ensures in
    let gone = offered.gone c.if-not-offer_modem.true in
    let before = (g.C.ManyProxyCore.face c.args.server.now.core) in
    let mid = (g.C.ManyProxyCore.face c.loop-device.server.core) in
    let after = (g.C.ManyProxyCore.face c.offer_modem.new.server.core) in
    let same : after.devices ≡ before.devices = offered.same.devices ∙ i.same.devices in
    let less = fewer_there mid.away after.away mid.devices c.loop-device.device offered.away.stay (omega (arith, i.same.devices)) gone.0 gone.1 in
    let rest = no_more_there before.away mid.away before.devices i.stays.stay in
    let here = ap (devices_there after.away) same in
    let there = ap (devices_there mid.away) i.same.devices in
    let also = ap (devices_there after.away) i.same.devices in
    omega (arith, less, rest, here, there, also)

-- all are there
pub returns-clause-carries : goal.returns-clause-carries
returns-clause-carries g c = λ p until turns.
    let i = c.loop-device.invariant in
    Carries-then (i.carried p until turns) (Carries-none _ _ _ (λ calls all. modems-ready all (omega (arith, i.same.devices))))
