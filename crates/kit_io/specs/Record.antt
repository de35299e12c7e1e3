-- What objects in memory keep of the calls that are made on them, within a room that is taken when they are made.
use Rattle.std.specs.Prelude.{◌≡◌, ℕ, ◌+◌, ◌<◌, ◌≤◌, List, [], ◌∷◌, ◌++◌, length, slice_get, option_and_then, Option, Some}
use Rattle.kit_io.specs.Growth.{Grows}

-- a list that is told as long as it fits, and for how many entries more there is room
pub record Recorded (A : Type 0) : Type 0 where
  pub recorded : Option (List A)
  pub room : ℕ

-- these were added, and are told where they fit
pub record Records {A : Type 0} (old : Recorded A) (added : List A) (new : Recorded A) : Type 0 where
  pub grows : Grows old.recorded added new.recorded
  pub fits : (before : List A) → old.recorded ≡ Some before → length added ≤ old.room → new.recorded ≡ Some (before ++ added)
  pub room : old.room ≤ new.room + length added

-- what happened, and the bytes that went with it
pub record Noted (K : Type 0) : Type 0 where
  pub kind : K
  pub bytes : List ℕ

-- a list of notes that is told as long as they fit, and for how many notes and bytes more there is room
pub record Logged (K : Type 0) : Type 0 where
  pub recorded : Option (List (Noted K))
  pub room : ℕ
  pub bytes_room : ℕ

-- one note was added, and is told where it fits
pub record Notes {K : Type 0} (old : Logged K) (note : Noted K) (new : Logged K) : Type 0 where
  pub grows : Grows old.recorded (note ∷ []) new.recorded
  pub fits : (before : List (Noted K)) → old.recorded ≡ Some before → 0 < old.room → length note.bytes ≤ old.bytes_room → new.recorded ≡ Some (before ++ note ∷ [])
  pub room : old.room ≤ new.room + 1
  pub bytes_room : old.bytes_room ≤ new.bytes_room + length note.bytes

-- the note at a place, where the notes are told and one stands there
abbrev pub note_at : {K : Type 0} → Option (List (Noted K)) → ℕ → Option (Noted K)
note_at recorded at = option_and_then (λ notes. slice_get notes at) recorded
