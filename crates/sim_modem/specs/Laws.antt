-- Laws of simulated modems. Lists of messages have the newest first.
use Rattle.std.specs.Prelude.{◌≡◌, ℕ, List, [], ◌∷◌}
use Rattle.sim_modem.specs.Sim.{Answering, Machine, HasMet, answers}

-- what a state goes on with, once it has met these messages
pub record Meets {S : Type 0} (machine : Machine S) (answering : Answering) (past : List (List ℕ)) (message : List ℕ) (state : S) : Type 0 where
  -- it sends the answer
  pub sent : machine.sends state message ≡ answering past message
  pub met : HasMet machine answering (message ∷ past) (machine.next state message)

-- a modem begins with no message met, and meets one after another
pub record MeetsEach (S : Type 0) : Type 0 where
  pub begins : (machine : Machine S) → HasMet machine (answers machine) [] machine.fresh
  pub goes_on : (machine : Machine S) (answering : Answering) (past : List (List ℕ)) (message : List ℕ) (state : S) → HasMet machine answering past state → Meets machine answering past message state
