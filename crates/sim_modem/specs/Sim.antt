-- What a simulated modem is, and what it answers. Lists of messages have the newest first.
use Rattle.std.specs.Prelude.{◌≡◌, ℕ, List, [], ◌∷◌}

-- the messages that a modem sends for a message, one behind the other, where these came before it
abbrev pub Answering : Type 0
Answering = List (List ℕ) → List ℕ → List ℕ

-- a modem that has these states
pub record Machine (S : Type 0) : Type 0 where
  -- before any message
  pub fresh : S
  -- the messages that it sends for a message, one behind the other
  pub sends : S → (message : List ℕ) → List ℕ
  -- the state that a message leaves
  pub next : S → (message : List ℕ) → S

abbrev pub state_after : {S : Type 0} → Machine S → (past : List (List ℕ)) → S
state_after machine [] = machine.fresh
state_after machine (message ∷ past) = machine.next (state_after machine past) message

abbrev pub answers : {S : Type 0} → Machine S → Answering
answers machine past message = machine.sends (state_after machine past) message

-- a modem that answers as this machine does, and has this state, has met these messages
pub record HasMet {S : Type 0} (machine : Machine S) (answering : Answering) (past : List (List ℕ)) (state : S) : Type 0 where
  pub answered : answering ≡ answers machine
  pub met : state ≡ state_after machine past
