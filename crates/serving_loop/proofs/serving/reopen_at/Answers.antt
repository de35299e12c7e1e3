use Rattle.std.proofs.Common.{◌≡◌, ℕ, List, ◌&&◌, Bool, true, false, sym, subst, ◌∙◌}
use Rattle.hub_io.specs.declared.settings.Until.{Until}
use Rattle.many_history.specs.Events.{ManyEvent}
use Rattle.many_io.specs.Record.{ManyCall}
use Rattle.many_serving.specs.Proxy.{ManyProxy}
use Rattle.serving_loop.specs.Face.{ManyFace}
use Rattle.serving_loop.specs.Progress.{MayReopen}
use Rattle.serving_loop.specs.declared.server.Server.{Server}
use Rattle.serving_loop.proofs.Carrying.{Carries-none, Carries-then}
use Rattle.serving_loop.proofs.Modem.{none_missed}
use Rattle.serving_loop.proofs.serving.reopen_at.Goals as goal

-- whether modems are missed
may_as : {C : Type 0} {keeps : ManyProxy → List ManyEvent → C → Type 0} {face : C → ManyFace} {p : ManyProxy} {until : Until} {turns : ℕ} {server : Server C} {calls : List ManyCall} (b came : Bool) → b ≡ came
    → MayReopen keeps face p until turns (λ d. b && (face server.core).away d) 0 server calls → MayReopen keeps face p until turns (λ d. came && (face server.core).away d) 0 server calls
may_as {keeps = keeps} {face = face} {p = p} {until = until} {turns = turns} {server = server} {calls = calls} b came is may =
    let P : Bool → Type 0 = λ b. MayReopen keeps face p until turns (λ d. b && (face server.core).away d) 0 server calls in subst P is may

pub returns-then-not-is_clock-clause-carries : goal.returns-then-not-is_clock-clause-carries
returns-then-not-is_clock-clause-carries g c = λ p until turns.
    Carries-none _ _ _ (λ calls may. none_missed (may_as _ false (sym c.is_clock.ensures ∙ c.if-not-is_clock.true) may))

pub returns-clause-carries : goal.returns-clause-carries
returns-clause-carries g c = λ p until turns.
    Carries-then (Carries-none _ _ _ (λ calls may. may_as _ true (sym c.is_clock.ensures ∙ c.if-not-is_clock.false) may)) (c.reopen_all.ensures.carries p until turns)
