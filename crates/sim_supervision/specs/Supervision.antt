-- What keeping a child running does to its spawner: the calls, the oldest first.
use Rattle.std.specs.Prelude.{◌≡◌, ◌≢◌, ◌⊎◌, ℕ, ℤ, pos, ◌+◌, ◌-◌, ◌≤◌, Bool, List, [], ◌∷◌, ◌++◌, length, All, Option}
use Rattle.std.specs.List.{flat_map}
use Rattle.kit_io.specs.Growth.{Grows}
use Rattle.child_io.specs.Calls as call
use Rattle.sim_supervision.specs.declared.supervision.SupervisionEnd.{SupervisionEnd}
use Rattle.sim_supervision.specs.declared.supervision.SupervisionEnd.TheVariants.{Ended, StartFault, OutOfMemory}

-- ---- one child ----

-- a child that was started, and the status that it ended with
pub record Run : Type 0 where
  pub child : ℕ
  pub status : ℤ

abbrev pub run_calls : List (List ℕ) → Run → List call.Call
run_calls words run = call.Started words run.child ∷ call.Ended run.child run.status ∷ []

-- it couldn't be started, or its end couldn't be waited for, so that it was stopped; no call is made on what it serves
pub data FailsToRun (words : List (List ℕ)) (calls : List call.Call) : Type 0 where
  not_started : calls ≡ call.StartFailed words ∷ [] → FailsToRun words calls
  not_ended : (child : ℕ) (stopped : Bool) → calls ≡ call.Started words child ∷ call.EndFailed child ∷ call.Stopped child stopped 0 ∷ [] → FailsToRun words calls

-- ---- child after child ----

-- the last child, behind which none is started: it ended with 0, or so many were started, or it failed to run
pub data EndsSupervision (words : List (List ℕ)) (most before : ℕ) (end : SupervisionEnd) (calls : List call.Call) : Type 0 where
  ended : (run : Run) → run.status ≡ pos 0 ⊎ most ≤ before + 1 → end ≡ Ended run.status → calls ≡ run_calls words run → EndsSupervision words most before end calls
  failed : FailsToRun words calls → end ≡ StartFault → EndsSupervision words most before end calls

-- children one after another, each started once the one before it had ended with another status than 0, and at most so many
pub record Supervises (words : List (List ℕ)) (most : ℕ) (end : SupervisionEnd) (calls : List call.Call) : Type 0 where
  pub earlier : List Run
  pub last : List call.Call
  pub each : All (λ run. run.status ≢ pos 0) earlier
  pub again : length earlier ≤ most - 1
  pub ends : EndsSupervision words most (length earlier) end last
  pub whole : calls ≡ flat_map (run_calls words) earlier ++ last

-- ---- what is told ----

-- the calls have grown by these children
pub record GrowsBySupervision (words : List (List ℕ)) (most : ℕ) (old : Option (List call.Call)) (end : SupervisionEnd) (new : Option (List call.Call)) : Type 0 where
  pub calls : List call.Call
  pub keeps : Supervises words most end calls
  pub grows : Grows old calls new

-- or no memory was there for the words
abbrev pub SupervisesOrLacksMemory : List (List ℕ) → (most : ℕ) → (old : Option (List call.Call)) → SupervisionEnd → (new : Option (List call.Call)) → Type 0
SupervisesOrLacksMemory words most old OutOfMemory new = Grows old [] new
SupervisesOrLacksMemory words most old end new = GrowsBySupervision words most old end new
