-- What an object of the outside tells of itself: a list that grows, until it tells nothing any more.
-- An adapter over the real thing tells nothing from the start, so what is said of a list that is told says nothing of it.
use Rattle.std.specs.Prelude.{◌≡◌, List, ◌++◌, Option, Some}

-- where the list is still told, it was told before, and has grown by these
pub record Grows {A : Type 0} (old : Option (List A)) (added : List A) (new : Option (List A)) : Type 0 where
  pub recorded : (all : List A) → new ≡ Some all → (before : List A) × (old ≡ Some before) × (all ≡ before ++ added)

-- it has grown by what these have in front of that rest
pub record GrowsUpTo {A : Type 0} (old : Option (List A)) (most rest : List A) (new : Option (List A)) : Type 0 where
  pub front : List A
  pub whole : most ≡ front ++ rest
  pub grows : Grows old front new

-- it has grown by some front of these
abbrev pub GrowsByFront : {A : Type 0} → Option (List A) → List A → Option (List A) → Type 0
GrowsByFront {A = A} old most new = (rest : List A) × GrowsUpTo old most rest new
