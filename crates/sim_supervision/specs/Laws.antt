-- What holds of every list of calls by which children are kept running.
use Rattle.std.specs.Prelude.{ℕ, false, List, All, Contains}
use Rattle.child_io.specs.Calls.{Call, Stopped}
use Rattle.child_io.specs.Alive.{alive}
use Rattle.sim_supervision.specs.Supervision.{Supervises}
use Rattle.sim_supervision.specs.declared.supervision.SupervisionEnd.{SupervisionEnd}

-- each child that is left was named by a `stop` that failed
abbrev pub FailedStopsAloneLeaveModems : Type 0
FailedStopsAloneLeaveModems = (words : List (List ℕ)) (most : ℕ) (end : SupervisionEnd) (calls : List Call) → Supervises words most end calls
    → All (λ child. Contains calls (Stopped child false 0)) (alive calls)
