-- Worked examples of simulated modems. Lists of messages have the newest first.
use Rattle.std.specs.Prelude.{◌≡◌, ℕ, List, [], ◌∷◌, ◌++◌}
use Rattle.sim_modem.specs.Sim.{Machine, answers, state_after}

-- its state is all that it was sent, one message behind the other, and it answers with that
abbrev pub remembering : Machine (List ℕ)
remembering = record { fresh = []; sends = λ state message. state; next = λ state message. state ++ message }

-- the oldest message is met first, and an answer comes of the state before its message
pub record MessagesAreMetInTurn : Type 0 where
  pub first : answers remembering [] (1 ∷ []) ≡ []
  pub third : answers remembering ((2 ∷ []) ∷ (1 ∷ []) ∷ []) (3 ∷ []) ≡ 1 ∷ 2 ∷ []
  pub state : state_after remembering ((2 ∷ []) ∷ (1 ∷ []) ∷ []) ≡ 1 ∷ 2 ∷ []
