-- The numbers in use in rising order, each with the key of its row.
use Rattle.std.specs.Prelude.{◌≡◌, ℕ, ◌<◌, ◌≤◌, Bool, true, false, ◌==◌, nat_lt, if◌then◌else◌, List, [], ◌∷◌, length, map, Option, Some, None, slice_index_or}
use Rattle.std.specs.List.{AllWithin, position}
use Rattle.kit_bytes.specs.Sorted.{IsInOrder}
use Rattle.number_space.specs.declared.space.Row.{Row}
use Rattle.number_space.specs.Chain.{KeyAt, values}
use Rattle.number_space.specs.Table.{is_due}

-- a number in use, and the key of its row
pub record Numbered : Type 0 where
  pub number : ℕ
  pub key : ℕ

-- a list of numbers, and how many fit
pub record Listed : Type 0 where
  pub items : List ℕ
  pub capacity : ℕ

-- the numbers in use with the keys of their rows, and how many fit
pub record Indexed : Type 0 where
  pub entries : List Numbered
  pub capacity : ℕ

-- each number with the key that stands beside it
abbrev pub beside : List ℕ → List ℕ → List Numbered
beside [] keys = []
beside (number ∷ numbers) [] = []
beside (number ∷ numbers) (key ∷ keys) = record { number = number; key = key } ∷ beside numbers keys

-- the key of the first of this number
abbrev pub key_by : {X : Type 0} → (X → ℕ) → (X → ℕ) → ℕ → List X → Option ℕ
key_by number_of key_of number [] = None
key_by number_of key_of number (x ∷ xs) = if number == number_of x then Some (key_of x) else key_by number_of key_of number xs

abbrev pub key_of : ℕ → List Numbered → Option ℕ
key_of number index = key_by (λ entry. entry.number) (λ entry. entry.key) number index

abbrev pub key_in : {T : Type 0} → ℕ → List (ℕ × Row T) → Option ℕ
key_in number entries = key_by (λ entry. entry.1.number) (λ entry. entry.0) number entries

abbrev pub AreRising : List Numbered → Type 0
AreRising index = IsInOrder (λ a b. a.number < b.number) index

abbrev pub numbers_of : List Numbered → List ℕ
numbers_of index = map (λ entry. entry.number) index

abbrev pub is_below : ℕ → Numbered → Bool
is_below number entry = nat_lt entry.number number

pub record IsBelowAt (number : ℕ) (index : List Numbered) (place : ℕ) : Type 0 where
  pub within : place < length index
  pub below : (d : Numbered) → is_below number (slice_index_or index place d) ≡ true

-- there stands the number, or it would stand there
pub record IsPlaceOf (number : ℕ) (index : List Numbered) (place : ℕ) : Type 0 where
  pub within : place ≤ length index
  pub before : AllWithin (λ entry. is_below number entry ≡ true) index 0 place
  pub behind : AllWithin (λ entry. is_below number entry ≡ false) index place (length index)

pub record NumberAt (number : ℕ) (index : List Numbered) (place : ℕ) : Type 0 where
  pub within : place < length index
  pub named : (d : Numbered) → (number == (slice_index_or index place d).number) ≡ true

-- it leads from each number in use to the key of its row
pub record IsIndexOf {T : Type 0} (index : List Numbered) (entries : List (ℕ × Row T)) : Type 0 where
  pub rising : AreRising index
  pub counted : length index ≡ length entries
  pub keyed : (number : ℕ) → key_of number index ≡ key_in number entries

-- ---- walks over the rows ----

-- the key is that of the first row that is due
pub record IsFirstDue {T : Type 0} (now : ℕ) (entries : List (ℕ × Row T)) (key : ℕ) : Type 0 where
  pub place : ℕ
  pub there : KeyAt key entries place
  pub due : position (is_due now) (values entries) ≡ Some place

-- the row changes, its key stays
abbrev pub on_row : {T : Type 0} → (Row T → Row T) → ℕ × Row T → ℕ × Row T
on_row change entry = (entry.0, change entry.1)
