-- Walks over rows in order of giving, by the keys that lead from one to the next.
use Rattle.std.proofs.Common.{◌≡◌, ℕ, zero, suc, ◌+◌, ◌<◌, ◌≤◌, Bool, true, false, ◌||◌, List, [], ◌∷◌, length, drop, get_or, Some, None, refl, ap, sym, ◌∙◌, arith}
use Rattle.std.specs.List.{AllWithin, position, list_any}
use Rattle.std.proofs.lemmas.List.{get_or_default, get_or-map, length-map}
use Rattle.std.proofs.lemmas.List.Elements.{AllWithin-more}
use Rattle.kit_bytes.proofs.Sorted.{position_is, position_none}
use Rattle.number_space.specs.Chain.{KeyAt, first_key, values}

module _ {V : Type 0} where
  pub none_left : (entries : List (ℕ × V)) (n : ℕ) → n < length entries → first_key None (drop n entries) ≡ None → ⊥
  none_left [] n within none = absurd (omega arith)
  none_left (entry ∷ entries) zero within none = absurd (cc)
  none_left (entry ∷ entries) (suc n) within none = none_left entries n (omega arith) none

  named : (entries : List (ℕ × V)) (n key : ℕ) → n < length entries → first_key None (drop n entries) ≡ Some key → (d : ℕ × V) → (get_or entries n d).0 ≡ key
  named [] n key within is d = absurd (omega arith)
  named (entry ∷ entries) zero key within is d = cc
  named (entry ∷ entries) (suc n) key within is d = named entries n key (omega arith) is d

  -- where the walk stands
  pub walk_at : (entries : List (ℕ × V)) (n key : ℕ) → n < length entries → first_key None (drop n entries) ≡ Some key → KeyAt key entries n
  walk_at entries n key within is = record { within = within; named = named entries n key within is }

  -- the entry that it stands at
  pub entry_is : (entries : List (ℕ × V)) (n key : ℕ) (value : V) → KeyAt key entries n → value ≡ (get_or entries n (key, value)).1 → (key, value) ≡ get_or entries n (key, value)
  entry_is entries n key value at is = ap (λ (k : ℕ). (k, value)) (sym (at.named (key, value))) ∙ ap (λ (v : V). ((get_or entries n (key, value)).0, v)) is

  module _ (entries : List (ℕ × V)) (n key : ℕ) (value : V) (at : KeyAt key entries n) (is : value ≡ (get_or entries n (key, value)).1) where
    count : length (values entries) ≡ length entries
    count = length-map entries (λ e. e.1)

    pub row_read : value ≡ get_or (values entries) n value
    row_read = is ∙ sym (get_or-map (λ (e : ℕ × V). e.1) entries n (key, value) value at.within)

    reads : (d : V) → get_or (values entries) n d ≡ value
    reads d = get_or_default (values entries) n d value (omega (arith, at.within, count)) ∙ sym row_read

    pub first_at : (p : V → Bool) → AllWithin (λ r. p r ≡ false) (values entries) 0 n → p value ≡ true → position p (values entries) ≡ Some n
    first_at p none here = position_is p (values entries) n value (λ k low. none k value (omega arith) low) (omega (arith, at.within, count)) (ap p (reads value) ∙ here)

    pub none_at : (p : V → Bool) → AllWithin (λ r. p r ≡ false) (values entries) 0 n → p value ≡ false → AllWithin (λ r. p r ≡ false) (values entries) 0 (n + 1)
    none_at p none other = AllWithin-more (λ r. p r ≡ false) (values entries) 0 n none (λ d. ap p (reads d) ∙ other)

    pub any_at : (p : V → Bool) → p value ≡ true → list_any p (values entries) ≡ true
    any_at p here = any_there p (values entries) n value (omega (arith, at.within, count)) (ap p (reads value) ∙ here)
      where
        or_true : (b : Bool) → (b || true) ≡ true
        or_true true = refl
        or_true false = refl

        any_there : (p : V → Bool) (xs : List V) (k : ℕ) (d : V) → k < length xs → p (get_or xs k d) ≡ true → list_any p xs ≡ true
        any_there p [] k d within here = absurd (omega arith)
        any_there p (x ∷ xs) zero d within here = rw here refl
        any_there p (x ∷ xs) (suc k) d within here = ap (λ (b : Bool). p x || b) (any_there p xs k d (omega arith) here) ∙ or_true (p x)

  pub none_all : (p : V → Bool) (entries : List (ℕ × V)) (n : ℕ) → length entries ≤ n → AllWithin (λ r. p r ≡ false) (values entries) 0 n → position p (values entries) ≡ None
  none_all p entries n all none = position_none p (values entries) (λ k d within. none k d (omega arith) (omega (arith, length-map entries (λ e. e.1))))

  pub any_none : (p : V → Bool) (entries : List (ℕ × V)) (n : ℕ) → length entries ≤ n → AllWithin (λ r. p r ≡ false) (values entries) 0 n → list_any p (values entries) ≡ false
  any_none p entries n all none = each (values entries) (λ k d within. none k d (omega arith) (omega (arith, length-map entries (λ e. e.1))))
    where
      each : (xs : List V) → ((k : ℕ) (d : V) → k < length xs → p (get_or xs k d) ≡ false) → list_any p xs ≡ false
      each [] none = refl
      each (x ∷ xs) none = rw (none 0 x (omega arith)) (each xs (λ k d within. none (suc k) d (omega arith)))
