-- How a simulated modem behaves to the clients that it is served to. Lists of messages have the newest first.
use Rattle.std.specs.Prelude.{◌≡◌, ℕ, Bool, false, List, [], Option, Some, None, Result, Ok, Err}
use Rattle.sim_modem.specs.Sim.{Answering}

pub record Conduct : Type 0 where
  -- its messages at a message
  pub answers : Answering
  -- whether it hangs up whoever sent the message, where these came before it
  pub hangs_up : (past : List (List ℕ)) → (message : List ℕ) → Bool
  -- after how many ticks of the clock its messages at a message go; 0 is at once
  pub late : (past : List (List ℕ)) → (message : List ℕ) → ℕ
  -- what this tick of the clock, counted from 1, brings each client behind these messages
  pub told : (tick : ℕ) → (past : List (List ℕ)) → List ℕ

-- it answers so at once, hangs nobody up, and tells nothing by the clock
abbrev pub plain : Answering → Conduct
plain answers = record { answers = answers; hangs_up = λ past message. false; late = λ past message. 0; told = λ tick past. [] }

-- it answers at once, and tells nothing by the clock
pub record IsPrompt (conduct : Conduct) : Type 0 where
  pub at_once : (past : List (List ℕ)) (message : List ℕ) → conduct.late past message ≡ 0
  pub silent : (tick : ℕ) (past : List (List ℕ)) → conduct.told tick past ≡ []

-- what a tick of the clock brings each client, or that the clock doesn't matter
abbrev pub Tells : Conduct → (tick : ℕ) → (past : List (List ℕ)) → Option (List ℕ) → Type 0
Tells conduct tick past None = IsPrompt conduct
Tells conduct tick past (Some told) = told ≡ conduct.told tick past

-- it is only where the clock may matter that something is told by it, or that memory is lacking for that
abbrev pub TakesClock : {A E : Type 0} → Type 0 → Result (Option A) E → Type 0
TakesClock clock (Ok None) = Unit {0}
TakesClock clock (Ok (Some told)) = clock
TakesClock clock (Err fault) = clock

-- a plain modem keeps what it has to keep of these messages
pub record KeepsPlain {S : Type 0} (keeps : Answering → List (List ℕ) → S → Type 0) (conduct : Conduct) (past : List (List ℕ)) (sim : S) : Type 0 where
  pub same : conduct ≡ plain conduct.answers
  pub modem : keeps conduct.answers past sim
