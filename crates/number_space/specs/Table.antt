-- What a number space keeps, and what each call makes of it.
use Rattle.std.specs.Prelude.{◌≡◌, ◌↔◌, ℕ, ◌<◌, ◌≤◌, Bool, true, not, ◌&&◌, ◌==◌, nat_le, if◌then◌else◌, List, [], ◌∷◌, ◌++◌, length, map, filter, find, Option, Some, None, slice_index_or, All, Contains}
use Rattle.std.specs.List.{IsDistinct}
use Rattle.kit_bytes.specs.Sorted.{IsInOrder}
use Rattle.proxy_history.specs.Requests.{number_after}
use Rattle.number_space.specs.declared.space.Row.{Row}
use Rattle.number_space.specs.declared.space.Found.{Found}
use Rattle.number_space.specs.declared.space.Found.TheVariants.{Pending, Late, Stray}

pub record Table (T : Type 0) : Type 0 where
  -- the numbers in use, in order of giving
  pub rows : List (Row T)
  -- the last number that was given, 0 where none was
  pub last : ℕ
  -- how many numbers may be in use, and the greatest number
  pub limit : ℕ
  pub top : ℕ

abbrev pub opened : {T : Type 0} → ℕ → ℕ → Table T
opened limit top = record { rows = []; last = 0; limit = limit; top = top }

-- ---- numbers in use ----

abbrev pub numbers : {T : Type 0} → List (Row T) → List ℕ
numbers rows = map (λ r. r.number) rows

abbrev pub row_of : {T : Type 0} → ℕ → List (Row T) → Option (Row T)
row_of number rows = find (λ r. number == r.number) rows

-- these are listed in rising order, each once
pub record IsRisingListOf (IsListed : ℕ → Type 0) (listed : List ℕ) : Type 0 where
  pub rising : IsInOrder (λ m n. m < n) listed
  pub same : (number : ℕ) → Contains listed number ↔ IsListed number

-- the row of this number stands there
pub record StandsAt {T : Type 0} (number : ℕ) (rows : List (Row T)) (place : ℕ) : Type 0 where
  pub within : place < length rows
  pub named : (d : Row T) → (number == (slice_index_or rows place d).number) ≡ true

abbrev pub without : {T : Type 0} → ℕ → List (Row T) → List (Row T)
without number rows = filter (λ r. not (number == r.number)) rows

-- ---- senders ----

-- how many of these numbers have this sender, who waits
abbrev pub waiting_of : {T : Type 0} → ℕ → List (Row T) → ℕ
waiting_of conn rows = length (filter (λ r. r.pending && (r.conn == conn)) rows)

abbrev pub pending_of : {T : Type 0} → ℕ → Table T → ℕ
pending_of conn table = waiting_of conn table.rows

-- ---- giving ----

-- the first number after the last one given, cyclic from 1 to the top, that isn't in use; none where the limit is
abbrev pub next_number : {T : Type 0} → Table T → Option ℕ
next_number table = number_after table.limit table.top table.last (numbers table.rows)

abbrev pub gives_number : {T : Type 0} → Option ℕ → ℕ → T → ℕ → Table T → Table T
gives_number None conn note deadline table = table
gives_number (Some number) conn note deadline table = record table {
  rows = table.rows ++ record { number = number; conn = conn; note = note; deadline = deadline; pending = true } ∷ [];
  last = number;
}

abbrev pub gives : {T : Type 0} → ℕ → T → ℕ → Table T → Table T
gives conn note deadline table = gives_number (next_number table) conn note deadline table

-- ---- answers ----

abbrev pub found : {T : Type 0} → Option (Row T) → Found T
found None = Stray
found (Some row) = if row.pending then Pending row.conn row.note else Late

abbrev pub answers : {T : Type 0} → ℕ → Table T → Table T
answers number table = record table { rows = without number table.rows }

-- ---- numbers whose senders don't wait any more, and that stay in use ----

-- nobody waits any more for a row that passes the test
abbrev pub settled_where : {T : Type 0} → (Row T → Bool) → Row T → Row T
settled_where test row = record row { pending = not (test row) && row.pending }

abbrev pub is_due : {T : Type 0} → ℕ → Row T → Bool
is_due now row = row.pending && nat_le row.deadline now

-- the pending number that was given first among those that are due
abbrev pub first_due : {T : Type 0} → ℕ → List (Row T) → Option (Row T)
first_due now rows = find (is_due now) rows

abbrev pub settles_number : {T : Type 0} → ℕ → List (Row T) → List (Row T)
settles_number number rows = map (settled_where (λ r. number == r.number)) rows

abbrev pub expires_row : {T : Type 0} → Option (Row T) → Table T → Table T
expires_row None table = table
expires_row (Some row) table = record table { rows = settles_number row.number table.rows }

abbrev pub expires : {T : Type 0} → ℕ → Table T → Table T
expires now table = expires_row (first_due now table.rows) table

abbrev pub orphans : {T : Type 0} → ℕ → Table T → Table T
orphans conn table = record table { rows = map (settled_where (λ r. conn == r.conn)) table.rows }

-- ---- a reset ----

abbrev pub resets : {T : Type 0} → Table T → Table T
resets table = record table { rows = [] }

-- ---- what holds of every space ----

pub record IsSound {T : Type 0} (table : Table T) : Type 0 where
  -- no two numbers in use are the same
  pub distinct : IsDistinct (λ m n. m == n) (numbers table.rows)
  pub few : length table.rows ≤ table.limit
  pub last : table.last ≤ table.top
  pub limit : table.limit ≤ table.top
  pub some : 1 ≤ table.limit

-- it waits until this time
abbrev pub IsPendingUntil : {T : Type 0} → ℕ → Row T → Type 0
IsPendingUntil time row = (row.pending ≡ true) × (row.deadline ≡ time)

-- no pending number is due before this time
abbrev pub NoneIsDueBefore : {T : Type 0} → ℕ → List (Row T) → Type 0
NoneIsDueBefore time rows = All (λ row. row.pending ≡ true → time ≤ row.deadline) rows
