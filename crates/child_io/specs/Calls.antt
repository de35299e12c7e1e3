-- The calls on a spawner, with their answers.
use Rattle.std.specs.Prelude.{ℕ, ℤ, Bool, List, Result, Ok, Err}

pub data Call : Type 0 where
  -- `start`, with the words and the child that it named
  Started : (words : List (List ℕ)) (child : ℕ) → Call
  StartFailed : (words : List (List ℕ)) → Call
  -- `ended`, with the child and its status
  Ended : (child : ℕ) (status : ℤ) → Call
  EndFailed : (child : ℕ) → Call
  -- `stop`, with the child, whether it answered Ok, and how many calls it was told had been made before it on what the children serve
  Stopped : (child : ℕ) (ok : Bool) (after : ℕ) → Call

-- a `start` with these words and this answer
abbrev pub start_call : {E : Type 0} → List (List ℕ) → Result ℕ E → Call
start_call words (Ok child) = Started words child
start_call words (Err e) = StartFailed words

-- an `ended` of this child with this answer
abbrev pub end_call : {E : Type 0} → ℕ → Result ℤ E → Call
end_call child (Ok status) = Ended child status
end_call child (Err e) = EndFailed child
