-- Messages that say near their front how long they are.
-- A framing is a function from bytes to what they say of the length of the message that they begin.
use Rattle.std.specs.Prelude.{◌≡◌, ℕ, ◌<◌, ◌≤◌, Bool, true, false, ◌==◌, List, length, slice_index}
use Rattle.framing.specs.declared.framing.Size.{Size}
use Rattle.framing.specs.declared.framing.Size.TheVariants.{Unknown, Known, Invalid}

-- these bytes are one whole message
abbrev pub IsMessage : (List ℕ → Size) → List ℕ → Type 0
IsMessage size bytes = size bytes ≡ Known (length bytes)

abbrev pub is_whole : Size → ℕ → Bool
is_whole Unknown count = false
is_whole (Known length) count = length == count
is_whole Invalid count = false

-- whether these bytes are one whole message
abbrev pub is_message : (List ℕ → Size) → List ℕ → Bool
is_message size bytes = is_whole (size bytes) (length bytes)

abbrev pub IsShort : Size → ℕ → Type 0
IsShort Unknown count = Unit {0}
IsShort (Known length) count = count < length
IsShort Invalid count = ⊥

-- a message may go on from these bytes, and they don't hold it whole
abbrev pub IsPartial : (List ℕ → Size) → List ℕ → Type 0
IsPartial size bytes = IsShort (size bytes) (length bytes)

abbrev pub is_invalid : Size → Bool
is_invalid Unknown = false
is_invalid (Known length) = false
is_invalid Invalid = true

-- no message begins like these bytes
abbrev pub IsBad : (List ℕ → Size) → List ℕ → Type 0
IsBad size bytes = size bytes ≡ Invalid

-- what some bytes say of the length, they say with more behind them too
abbrev pub IsKept : Size → Size → Type 0
IsKept Unknown later = Unit {0}
IsKept (Known length) later = later ≡ Known length
IsKept Invalid later = later ≡ Invalid

-- no message is empty
abbrev pub IsPositive : Size → Type 0
IsPositive Unknown = Unit {0}
IsPositive (Known length) = 0 < length
IsPositive Invalid = Unit {0}

-- each number of the list fits a byte
abbrev pub AreBytes : List ℕ → Type 0
AreBytes bytes = (at : ℕ) → slice_index bytes at < 256

-- a message is at most so long, and so many bytes leave its length open only where they are fewer
abbrev pub IsWithin : ℕ → Size → ℕ → Type 0
IsWithin longest Unknown count = count < longest
IsWithin longest (Known length) count = length ≤ longest
IsWithin longest Invalid count = Unit {0}
