use Rattle.std.proofs.Common.{◌≡◌, ℕ, ◌+◌, List, [], ◌∷◌, ◌++◌, Option, Some, None, ap, sym, subst, ◌∙◌}
use Rattle.std.proofs.lemmas.Result.{err_from_is_err_and}
use Rattle.many_history.specs.Events.{ManyEvent}
use Rattle.many_serving.specs.Proxy.{ManyProxy}
use Rattle.hub_io.specs.Record.{Since}
use Rattle.many_io.specs.Record.{ManyCall, Told}
use Rattle.hub_io.specs.declared.settings.ServeEnd.{ServeEnd}
use Rattle.serving_loop.specs.Carrying.{Carries}
use Rattle.serving_loop.specs.Face.{ManyFace}
use Rattle.serving_loop.specs.Cores.{Stands, StandsAfter}
use Rattle.serving_loop.specs.Server.{emptied_after, end_at, misses_modem}
use Rattle.many_serving.specs.Ends.{hanging_up}
use Rattle.serving_loop.specs.Progress.{IsServing, HasTold, AreHangUps, AfterEvent, MayBeTold}
use Rattle.serving_loop.specs.declared.server.Server.{Server}
use Rattle.serving_loop.proofs.Carrying.{Carries-none, Carries-then, Carries-with}
use Rattle.serving_loop.proofs.Known.{may_meet}
use Rattle.serving_loop.proofs.Turns.{told-met, told-unmet, told-done}
use Rattle.serving_loop.proofs.serving.meet_event.Goals as goal
use Rattle.hub_io.specs.declared.settings.Until.{Until}

-- the event was met, hang-ups followed, and this came of it: why the serving ends, where it does
met : {C : Type 0} {keeps : ManyProxy → List ManyEvent → C → Type 0} {face : C → ManyFace} {p : ManyProxy} {until : Until} {turns : ℕ} {server now : Server C} {event : ManyEvent} {start new : Option (List ManyCall)} (devices known : ℕ) (asked : Server C) (came : Option ServeEnd)
    → MayBeTold devices known event → (face server.core).dropped ≡ [] → ((past : List ManyEvent) → Stands keeps face p past server.core → StandsAfter keeps face p (event ∷ past) now.core)
    → now.blocked ≡ server.blocked → now.modems ≡ server.modems → now.emptied ≡ emptied_after (face server.core) server.emptied (face now.core)
    → Since start new AreHangUps → Carries start (IsServing keeps face p (turns + 1) now) new (IsServing keeps face p (turns + 1) asked) → (face asked.core).dropped ≡ []
    → end_at event until (face asked.core) asked.emptied ≡ came
    → Carries start (HasTold keeps face p until turns server (Told event)) new (AfterEvent keeps face came (misses_modem event (face asked.core)) p until turns asked)
met {keeps = keeps} {face = face} {p = p} {until = until} {turns = turns} {server = server} {now = now} {event = event} devices known asked came may none_before stands blocked modems emptied only hangs none is =
    let Begun : List ManyCall → Type 0 = HasTold keeps face p until turns server (Told event) in
    let Serving : List ManyCall → Type 0 = IsServing keeps face p (turns + 1) now in
    let Done : Option ServeEnd → List ManyCall → Type 0 = λ o. AfterEvent keeps face o (misses_modem event (face asked.core)) p until turns asked in
    let meeting : (calls : List ManyCall) → Begun calls → Serving calls =
    λ calls has. let after = stands _ has.ready.serving.stands in told-met has devices known may now none_before after blocked modems emptied after.all_dropped in
    Carries-then (Carries-with AreHangUps _ _ only (Carries-then (Carries-none Begun Serving _ meeting) hangs))
    (Carries-none _ (Done came) _ (λ calls all.
    let whole : calls ≡ hanging_up all.3.0 ++ all.0 = all.2 ∙ ap (λ (l : List ManyCall). l ++ all.0) all.3.1 in
    let Asked : List ManyCall → Type 0 = IsServing keeps face p (turns + 1) asked in
    subst (Done came) (sym whole) (subst (λ (o : Option ServeEnd). Done o (hanging_up all.3.0 ++ all.0)) is (told-done all.4 all.3.0 none_before (subst Asked whole all.5) none))))

pub meet-requires-clause-can : goal.meet-requires-clause-can
meet-requires-clause-can g c =
    let told = c.requires.told in
    may_meet _ (g.C.ManyProxyCore.face c.args.server.now.core) _ told.0 c.requires.asked told.1 c.requires.hub told.2

pub returns-in-Some-clause-carries : goal.returns-in-Some-clause-carries
returns-in-Some-clause-carries g c = λ p turns.
    let meet = c.in_ok-meet.ensures in
    let hangs = c.hang_up_dropped.ensures in
    met _ c.requires.told.0 c.hang_up_dropped.new.server (Some c.in-Some.end) c.requires.told.2 c.requires.asked (meet.stands p) meet.blocked meet.modems meet.emptied hangs.only (hangs.carries p (turns + 1)) hangs.asked
    (sym c.end_at.ensures.end ∙ c.in-Some.is)

pub returns-clause-carries : goal.returns-clause-carries
returns-clause-carries g c = λ p turns.
    let meet = c.in_ok-meet.ensures in
    let hangs = c.hang_up_dropped.ensures in
    Carries-then
    (met _ c.requires.told.0 c.hang_up_dropped.new.server None c.requires.told.2 c.requires.asked (meet.stands p) meet.blocked meet.modems meet.emptied hangs.only (hangs.carries p (turns + 1)) hangs.asked
    (sym c.end_at.ensures.end ∙ c.in_default.is))
    (c.reopen_at.ensures.carries p c.args.until (turns + 1))

pub returns-in_err-meet-clause-carries : goal.returns-in_err-meet-clause-carries
returns-in_err-meet-clause-carries g c = λ p turns.
    let e = err_from_is_err_and c.from_residual.result c.from_residual.ensures.1 in
    rw (e.1, e.2) (Carries-none _ _ _ (λ calls has. told-unmet has c.requires.asked c.in_err-meet.ensures.memory))
