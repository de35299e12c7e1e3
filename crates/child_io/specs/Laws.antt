-- What holds of every list of calls on a spawner, the oldest call first.
use Rattle.std.specs.Prelude.{◌≡◌, ◌↔◌, ℕ, false, List, ◌∷◌, ◌++◌, map, Contains}
use Rattle.std.specs.List.{AllByRecursion}
use Rattle.child_io.specs.Calls.{Call, Started}
use Rattle.child_io.specs.Alive.{sees_end_of, alive}
use Rattle.child_io.specs.Kids.{Try, stops, LeavesFailedAlone}

-- a `start` named the child, and no later call saw its end
pub record IsStartedAndNotEnded (child : ℕ) (calls : List Call) : Type 0 where
  pub earlier : List Call
  pub words : List (List ℕ)
  pub later : List Call
  pub whole : calls ≡ earlier ++ Started words child ∷ later
  pub none : AllByRecursion (λ call. sees_end_of child call ≡ false) later

abbrev pub AliveUntilTheEnd : Type 0
AliveUntilTheEnd = (calls : List Call) (child : ℕ) → Contains (alive calls) child ↔ IsStartedAndNotEnded child calls

-- one `stop` of each child that is alive
abbrev pub FailedStopsAloneLeaveChildren : Type 0
FailedStopsAloneLeaveChildren = (calls : List Call) (after : ℕ) (tries : List Try) → map (λ try. try.child) tries ≡ alive calls
    → LeavesFailedAlone tries (alive (calls ++ stops after tries))
