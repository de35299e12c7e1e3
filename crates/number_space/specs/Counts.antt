-- How many numbers each connection waits for, as far as it is known without a walk over the rows.
use Rattle.std.specs.Prelude.{◌≡◌, ◌≢◌, ℕ, ◌==◌, ◌%◌, if◌then◌else◌, List, slice_index_or, Option, Some, None}
use Rattle.number_space.specs.declared.counts.Count.{Count}
use Rattle.number_space.specs.declared.space.Row.{Row}
use Rattle.number_space.specs.Table.{waiting_of}

-- connections whose names are 128 apart share a place
abbrev pub place_of : ℕ → ℕ
place_of conn = conn % 128

abbrev pub nobody : Count
nobody = record { conn = 0; waits = 0 }

abbrev pub count_of : ℕ → Count → Option ℕ
count_of conn count = if count.conn == conn then Some count.waits else None

-- the count of this connection, if its place has it
abbrev pub known : List Count → ℕ → Option ℕ
known counts conn = count_of conn (slice_index_or counts (place_of conn) nobody)

-- nobody is known to wait for a number
abbrev pub NobodyWaits : List Count → Type 0
NobodyWaits counts = (conn n : ℕ) → known counts conn ≡ Some n → n ≡ 0

-- what is known of the other connections was known before
abbrev pub OthersStay : ℕ → List Count → List Count → Type 0
OthersStay conn old new = (other n : ℕ) → other ≢ conn → known new other ≡ Some n → known old other ≡ Some n

-- what is known is so
abbrev pub AreCounted : {T : Type 0} → List Count → List (Row T) → Type 0
AreCounted counts rows = (conn n : ℕ) → known counts conn ≡ Some n → n ≡ waiting_of conn rows
