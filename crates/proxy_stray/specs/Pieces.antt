-- Bytes of the modem that come in pieces, with other events between the pieces. Lists of steps and of events have the newest first.
use Rattle.std.specs.Prelude.{◌≡◌, ℕ, ◌≤◌, Bool, true, false, List, [], ◌∷◌, ◌++◌, length}
use Rattle.proxy_history.specs.Events.{Event, ModemPiece, ModemGone, ModemBack}
use Rattle.proxy_history.specs.Coming.{piece_limit}

-- a piece of the bytes, or another event
pub data Step : Type 0 where
  Part : (bytes : List ℕ) → Step
  Other : (event : Event) → Step

-- the bytes of the pieces
unfoldable pub bytes_of : List Step → List ℕ
bytes_of [] = []
bytes_of (Part bytes ∷ steps) = bytes_of steps ++ bytes
bytes_of (Other event ∷ steps) = bytes_of steps

-- the events, and those of them that are no pieces
unfoldable pub with_parts : List Step → List Event
with_parts [] = []
with_parts (Part bytes ∷ steps) = ModemPiece bytes ∷ with_parts steps
with_parts (Other event ∷ steps) = event ∷ with_parts steps

unfoldable pub without_parts : List Step → List Event
without_parts [] = []
without_parts (Part bytes ∷ steps) = without_parts steps
without_parts (Other event ∷ steps) = event ∷ without_parts steps

-- the modem says something, goes or comes back
abbrev pub is_of_modem : Event → Bool
is_of_modem (ModemPiece bytes) = true
is_of_modem ModemGone = true
is_of_modem ModemBack = true
is_of_modem _ = false

-- between the pieces the modem says nothing else, and stays
abbrev pub AreTogether : List Step → Type 0
AreTogether [] = Unit {0}
AreTogether (Part bytes ∷ steps) = AreTogether steps
AreTogether (Other event ∷ steps) = (is_of_modem event ≡ false) × AreTogether steps

-- the pieces are no longer than a piece may be
abbrev pub AreShort : List Step → Type 0
AreShort [] = Unit {0}
AreShort (Part bytes ∷ steps) = (length bytes ≤ piece_limit) × AreShort steps
AreShort (Other event ∷ steps) = AreShort steps
