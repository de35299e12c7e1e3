-- Lists of subscriptions in normal form, and a pair that is added to one.
use Rattle.std.specs.Prelude.{◌≡◌, ℕ, bytes_eq, Bool, true, false, ◌&&◌, ◌==◌, nat_le, List, ◌∷◌, length, Option, Some, None, if◌then◌else◌}
use Rattle.std.specs.declared.cmp.Ordering.TheVariants.{Less}
use Rattle.kit_bytes.specs.Sorted.{IsInOrder}
use Rattle.kit_bytes.specs.Subscriptions.{Pair, pair_cmp, normal_form}

-- each pair once, and in order
abbrev pub AreInOrder : List Pair → Type 0
AreInOrder pairs = IsInOrder (λ pair other. pair_cmp pair other ≡ Less) pairs

abbrev pub IsNormal : List Pair → Type 0
IsNormal list = normal_form list ≡ list

-- the same CID, or all of them
abbrev pub has_cid : Option ℕ → Option ℕ → Bool
has_cid None other = true
has_cid (Some cid) None = false
has_cid (Some cid) (Some other) = cid == other

-- the pair is the other one, or all CIDs of its service
abbrev pub covers : Pair → Pair → Bool
covers pair other = bytes_eq pair.0 other.0 && has_cid pair.1 other.1

-- their normal form has no more than so many
abbrev pub fits : ℕ → List Pair → Bool
fits limit pairs = nat_le (length (normal_form pairs)) limit

-- a list with a pair more, where that fits
abbrev pub pushed : ℕ → Pair → List Pair → List Pair
pushed limit pair list = if fits limit (pair ∷ list) then normal_form (pair ∷ list) else list
