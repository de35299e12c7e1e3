-- Worked examples of the children that calls leave, the oldest call first.
use Rattle.std.specs.Prelude.{◌≡◌, pos, negsuc, true, false, List, [], ◌∷◌, ◌++◌}
use Rattle.child_io.specs.Calls.{Call, Started, StartFailed, Ended, EndFailed, Stopped}
use Rattle.child_io.specs.Alive.{alive}

-- two pumps were started, and a third start failed
abbrev pub two_started : List Call
two_started = Started [] 7 ∷ Started [] 9 ∷ StartFailed [] ∷ []

pub record StartedChildrenAreAlive : Type 0 where
  pub none : alive [] ≡ []
  pub both : alive two_started ≡ 7 ∷ 9 ∷ []

-- one ended by itself, whatever its status, and the other was stopped
pub record WhoEndedOrStoppedIsNotAlive : Type 0 where
  pub ended : alive (two_started ++ Ended 7 (pos 4) ∷ []) ≡ 9 ∷ []
  pub killed : alive (two_started ++ Ended 9 (negsuc 0) ∷ []) ≡ 7 ∷ []
  pub stopped : alive (two_started ++ Stopped 7 true 30 ∷ []) ≡ 9 ∷ []
  pub both : alive (two_started ++ Stopped 9 true 30 ∷ Ended 7 (pos 0) ∷ []) ≡ []

-- what failed ended nothing
pub record EndsThatFailedLeaveTheirChild : Type 0 where
  pub waiting : alive (two_started ++ EndFailed 7 ∷ []) ≡ 7 ∷ 9 ∷ []
  pub stopping : alive (two_started ++ Stopped 7 false 30 ∷ Stopped 9 true 30 ∷ []) ≡ 7 ∷ []
  pub again : alive (two_started ++ Stopped 7 false 30 ∷ Stopped 7 true 30 ∷ []) ≡ 9 ∷ []

-- a child that is gone may leave its number to another, whose end is yet to come
pub record ANumberMayBeGivenAgain : Type 0 where
  pub again : alive (two_started ++ Stopped 7 true 30 ∷ Started [] 7 ∷ []) ≡ 9 ∷ 7 ∷ []
  pub others : alive (two_started ++ Stopped 8 true 30 ∷ []) ≡ 7 ∷ 9 ∷ []
