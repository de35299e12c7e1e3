-- Lists from a place on.
use Rattle.std.proofs.Common.{◌≡◌, ℕ, ◌+◌, ◌<◌, List, ◌∷◌, length, get_or, drop, refl, add-one}
use Rattle.std.proofs.Math.Seq.{drop-cons}

-- what is left from a place on, of which the first is known
pub drop_item : {A : Type 0} (xs : List A) (i : ℕ) (x : A) → i < length xs → x ≡ get_or xs i x → drop i xs ≡ x ∷ drop (i + 1) xs
drop_item xs i x within is = rw (add-one i, drop-cons xs i x within, ← is) refl

pub ruleset taken = (drop_item)
