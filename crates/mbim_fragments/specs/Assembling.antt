-- What an assembly is seen as, and which run it stands for.
use Rattle.std.specs.Prelude.{◌≡◌, ℕ, ◌+◌, ◌==◌, Bool, not, ◌&&◌, nat_lt, if◌then◌else◌, List, [], ◌∷◌, ◌++◌, length, Option, Some, None}
use Rattle.mbim_frame.specs.Head.{number_of}
use Rattle.mbim_frame.specs.Fragment.{total_of, current_of, body_of}
use Rattle.mbim_fragments.specs.declared.assembly.Progress.{Progress}
use Rattle.mbim_fragments.specs.Runs.{Joining, More, Whole, OutOfSequence, TooLong, joined, joining, run_after}

pub record Assembled : Type 0 where
  -- how far a message has come, where one has begun
  pub progress : Option Progress
  -- what its fragments carry of the body
  pub body : List ℕ

-- no message has begun
abbrev pub fresh : Assembled
fresh = record { progress = None; body = [] }

-- what is left of a run
abbrev pub assembled_of : (run : List (List ℕ)) → Assembled
assembled_of [] = fresh
assembled_of (first ∷ run) = record { progress = Some (record { number = number_of first; total = total_of first; count = length (first ∷ run) }); body = joined (first ∷ run) }

-- the fragment is the one that is due
abbrev pub is_due_behind : Option Progress → (fragment : List ℕ) → Bool
is_due_behind None fragment = current_of fragment == 0 && nat_lt 0 (total_of fragment)
is_due_behind (Some p) fragment = number_of fragment == p.number && (total_of fragment == p.total) && (current_of fragment == p.count)

-- how far the message has come with the fragment that is due
abbrev pub progress_with : (fragment : List ℕ) → Progress
progress_with fragment = record { number = number_of fragment; total = total_of fragment; count = current_of fragment + 1 }

abbrev pub progress_behind : Option Progress → (fragment : List ℕ) → Option Progress
progress_behind progress fragment = if is_due_behind progress fragment then Some (progress_with fragment) else None

-- what a fragment comes to
abbrev pub joining_behind : (longest : ℕ) → Assembled → (fragment : List ℕ) → Joining
joining_behind longest a fragment =
    if not (is_due_behind a.progress fragment) then OutOfSequence
    else if nat_lt longest (length (a.body ++ body_of fragment)) then TooLong
    else if current_of fragment + 1 == total_of fragment then Whole (a.body ++ body_of fragment)
    else More

-- whatever completes a message or isn't taken leaves nothing
abbrev pub left_by : Joining → Assembled → (fragment : List ℕ) → Assembled
left_by More a fragment = record { progress = Some (progress_with fragment); body = a.body ++ body_of fragment }
left_by _ a fragment = fresh

abbrev pub assembled_after : (longest : ℕ) → Assembled → (fragment : List ℕ) → Assembled
assembled_after longest a fragment = left_by (joining_behind longest a fragment) a fragment

-- the body that a fragment completes takes the place of the one before
abbrev pub body_given : Joining → (before : List ℕ) → List ℕ
body_given (Whole body) before = body
body_given _ before = before

-- it comes to what it comes to behind the run itself, and leaves what is left of the run with it
pub record GoesOnAsRun (longest : ℕ) (run : List (List ℕ)) (fragment : List ℕ) : Type 0 where
  pub joining_is : joining_behind longest (assembled_of run) fragment ≡ joining longest run fragment
  pub left : assembled_after longest (assembled_of run) fragment ≡ assembled_of (run_after longest run fragment)

abbrev pub AssembliesStandForRuns : Type 0
AssembliesStandForRuns = (longest : ℕ) (run : List (List ℕ)) (fragment : List ℕ) → GoesOnAsRun longest run fragment
