-- What a request comes to.
use Rattle.std.specs.Prelude.{ℕ, List, Option}
use Rattle.qmi_values.specs.Value.{Value}
use Rattle.sim_qmi.specs.State.{State}

pub data Answer : Type 0 where
  -- with this error
  failure : ℕ → Answer
  -- with a value for each output of the message, in the order of the table, or with None for one that isn't sent
  success : List (Option Value) → Answer

-- what is answered, and the state then
pub record Step : Type 0 where
  pub answer : Answer
  pub state : State

abbrev pub refused : State → (error : ℕ) → Step
refused state error = record { answer = failure error; state = state }

-- a success that changes nothing
abbrev pub answered : State → List (Option Value) → Step
answered state values = record { answer = success values; state = state }
