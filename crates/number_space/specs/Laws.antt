-- What holds of every list of calls. A list of calls has the newest first.
use Rattle.std.specs.Prelude.{◌≡◌, ◌↔◌, ℕ, Bool, true, false, ◌==◌, List, ◌∷◌, ◌++◌, Option, Some, None, All, Contains}
use Rattle.number_space.specs.declared.space.Row.{Row}
use Rattle.number_space.specs.Table.{numbers, next_number, first_due}
use Rattle.number_space.specs.Calls.{Call, Give, Answer, Expire, Orphan, Reset, after}

-- an answer with this number, or a reset; neither expiry nor a connection that leaves frees a number
abbrev pub frees : {T : Type 0} → ℕ → Call T → Bool
frees number (Answer answered) = number == answered
frees number Reset = true
frees number _ = false

-- the number was given, and has no answer since, and no reset since
pub record IsGivenAndNotFreed {T : Type 0} (limit top number : ℕ) (calls : List (Call T)) : Type 0 where
  pub later : List (Call T)
  pub earlier : List (Call T)
  pub conn : ℕ
  pub note : T
  pub deadline : ℕ
  pub whole : calls ≡ later ++ Give conn note deadline ∷ earlier
  pub given : next_number (after limit top earlier) ≡ Some number
  pub none : All (λ call. frees number call ≡ false) later

abbrev pub InUseUntilFreed : Type 0 → Type 0
InUseUntilFreed T = (limit top : ℕ) (calls : List (Call T)) (number : ℕ)
    → Contains (numbers (after limit top calls).rows) number ↔ IsGivenAndNotFreed limit top number calls

-- ---- the numbers that are waited for ----

abbrev pub has_number : {T : Type 0} → ℕ → Option (Row T) → Bool
has_number number None = false
has_number number (Some row) = row.number == number

-- what frees the number ends the waiting, and so do an expiry that takes it and the end of its connection; `past` are the calls before this one
abbrev pub ends_waiting : {T : Type 0} → ℕ → ℕ → ℕ → ℕ → Call T → List (Call T) → Bool
ends_waiting limit top number conn (Expire now) past = has_number number (first_due now (after limit top past).rows)
ends_waiting limit top number conn (Orphan left) past = left == conn
ends_waiting limit top number conn call past = frees number call

-- a number in use that its connection waits for
abbrev pub pending_row : {T : Type 0} → ℕ → ℕ → T → ℕ → Row T
pending_row number conn note deadline = record { number = number; conn = conn; note = note; deadline = deadline; pending = true }

-- the number was given to this connection, with this note and deadline, and no later call ended the waiting
pub record IsGivenAndNotEnded {T : Type 0} (limit top number conn : ℕ) (note : T) (deadline : ℕ) (calls : List (Call T)) : Type 0 where
  pub later : List (Call T)
  pub earlier : List (Call T)
  pub whole : calls ≡ later ++ Give conn note deadline ∷ earlier
  pub given : next_number (after limit top earlier) ≡ Some number
  pub none : (newer older : List (Call T)) (call : Call T) → later ≡ newer ++ call ∷ older
      → ends_waiting limit top number conn call (older ++ Give conn note deadline ∷ earlier) ≡ false

abbrev pub PendingUntilEnded : Type 0 → Type 0
PendingUntilEnded T = (limit top : ℕ) (calls : List (Call T)) (number conn : ℕ) (note : T) (deadline : ℕ)
    → Contains (after limit top calls).rows (pending_row number conn note deadline) ↔ IsGivenAndNotEnded limit top number conn note deadline calls
