-- What one child that is started and waited for does to its spawner.
use Rattle.std.specs.Prelude.{◌≡◌, ℕ, ℤ, Bool, List, [], ◌∷◌, Option, Result, Ok, Err}
use Rattle.kit_io.specs.Growth.{Grows}
use Rattle.child_io.specs.Calls.{Call, Ended, EndFailed, Stopped}
use Rattle.sim_supervision.specs.Supervision.{FailsToRun, run_calls}

-- a child that was started ended with this status, or was stopped
abbrev pub IsEnd : {E : Type 0} → ℕ → Result ℤ E → List Call → Type 0
IsEnd child (Ok status) calls = calls ≡ Ended child status ∷ []
IsEnd child (Err e) calls = (stopped : Bool) × (calls ≡ EndFailed child ∷ Stopped child stopped 0 ∷ [])

-- a child was started and ended with this status, or it failed to run
abbrev pub IsRun : {E : Type 0} → List (List ℕ) → Result ℤ E → List Call → Type 0
IsRun words (Ok status) calls = (child : ℕ) × (calls ≡ run_calls words (record { child = child; status = status }))
IsRun words (Err e) calls = FailsToRun words calls

-- the calls have grown by some like these
pub record GrowsLike (Like : List Call → Type 0) (old new : Option (List Call)) : Type 0 where
  pub calls : List Call
  pub are : Like calls
  pub grows : Grows old calls new
