-- What becomes of the children that are kept.
use Rattle.std.specs.Prelude.{◌≡◌, ℕ, Bool, true, false, not, ◌==◌, List, [], ◌++◌, map, filter, All, Contains, Option, Result, is_ok}
use Rattle.std.specs.List.{list_all}
use Rattle.kit_io.specs.Growth.{Grows}
use Rattle.child_io.specs.Calls.{Call, Stopped}
use Rattle.child_io.specs.Alive.{alive, StandsFor}

-- these children but this one
abbrev pub without : ℕ → List ℕ → List ℕ
without child children = filter (λ other. not (child == other)) children

-- a `stop` of a child, and whether it answered Ok
pub record Try : Type 0 where
  pub child : ℕ
  pub ok : Bool

-- the calls that these were, when so many calls had been made before on what the children serve
abbrev pub stops : (after : ℕ) → List Try → List Call
stops after tries = map (λ try. Stopped try.child try.ok after) tries

-- each child that is left was named by a `stop` that failed, and none is left where none failed
pub record LeavesFailedAlone (tries : List Try) (left : List ℕ) : Type 0 where
  pub failed : All (λ child. Contains tries (record { child = child; ok = false })) left
  pub none : list_all (λ try. try.ok) tries ≡ true → left ≡ []

-- the calls have grown by one `stop` of each child, each behind so many calls on what it serves, and the result is Ok exactly where each of them was
pub record StopsEach {T E : Type 0} (children : List ℕ) (after : ℕ) (old : Option (List Call)) (result : Result T E) (new : Option (List Call)) : Type 0 where
  pub tries : List Try
  pub each : map (λ try. try.child) tries ≡ children
  pub all : is_ok result ≡ list_all (λ try. try.ok) tries
  pub grows : Grows old (stops after tries) new
  pub leaves : (calls : List Call) → StandsFor calls children → LeavesFailedAlone tries (alive (calls ++ stops after tries))
