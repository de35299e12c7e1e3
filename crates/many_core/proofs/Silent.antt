-- Those for whom nothing waits at a device.
use Rattle.std.proofs.Common.{◌≡◌, ℕ, zero, suc, ◌+◌, ◌<◌, Bool, true, false, cond, ◌==◌, nat_lt, List, [], ◌∷◌, length, map, position, slice_get, refl, ap, sym, ◌∙◌, arith, Option, Some, None}
use Rattle.std.specs.List.{AllByRecursion, position_from}
use Rattle.std.specs.Option.{option_map}
use Rattle.std.proofs.lemmas.Bool.Decides.{nat_tests}
use Rattle.std.proofs.lemmas.Iterator.Adapters.{position_from-zero}
use Rattle.kit_bytes.specs.Sorted.{IsInOrder}
use Rattle.kit_bytes.proofs.Lists.{all_weaker, all_found}
use Rattle.connections.specs.Table.{Connection, AreRising, connection_in, waiting_or, has_waiting, first_waiting}
use Rattle.many_core.proofs.Waits.{wait}

-- ---- the first that passes a test ----

mapped_none : (f : ℕ → ℕ) (o : Option ℕ) → None ≡ option_map f o → o ≡ None
mapped_none f None is = refl
mapped_none f (Some i) is = absurd (cc)

mapped_some : (o : Option ℕ) (i : ℕ) → Some i ≡ option_map (λ at. 0 + at) o → o ≡ Some i
mapped_some None i is = absurd (cc)
mapped_some (Some j) i is = (let same : Some i ≡ Some (0 + j) = is in let index : i ≡ 0 + j = cc in ap (λ (n : ℕ). Some n) (omega (arith, index)))

module _ {X : Type 0} (p : X → Bool) where
  none_from : (xs : List X) (start : ℕ) → position_from p start xs ≡ None → AllByRecursion (λ x. p x ≡ false) xs
  none_from [] start none = tt
  none_from (x ∷ xs) start none = by (none_from xs (start + 1)) (p x) refl none
    where
      by : (position_from p (start + 1) xs ≡ None → AllByRecursion (λ y. p y ≡ false) xs) → (b : Bool) → p x ≡ b → cond b (Some start) (position_from p (start + 1) xs) ≡ None → AllByRecursion (λ y. p y ≡ false) (x ∷ xs)
      by rest true here is = absurd (cc)
      by rest false here is = (here, rest is)

  none_passes : (xs : List X) → position p xs ≡ None → AllByRecursion (λ x. p x ≡ false) xs
  none_passes xs none = none_from xs 0 (sym (position_from-zero p xs) ∙ none)

-- ---- nobody of a lower name ----

no_bytes : (bytes : List ℕ) → wait bytes ≡ false → bytes ≡ []
no_bytes [] none = refl
no_bytes (byte ∷ bytes) none = absurd (let some : nat_lt 0 (length (byte ∷ bytes)) ≡ true = grind (arith, nat_tests) in cc)

module _ {T : Type 0} where
  -- nothing waits for one of a lower name
  abbrev pub AreSilentBefore : ℕ → List (Connection T) → Type 0
  AreSilentBefore name present = AllByRecursion (λ k. k.name < name → has_waiting k ≡ false) present

  before_first : (name : ℕ) (present : List (Connection T)) (start i : ℕ) → AreRising present → position_from has_waiting start present ≡ Some (start + i) → slice_get (map (λ (k : Connection T). k.name) present) i ≡ Some name → AreSilentBefore name present
  unfolding IsInOrder
  before_first name [] start i rising first at = tt
  before_first name (k ∷ present) start zero rising first at =
      let same : k.name ≡ name = cc in (
        λ low. absurd (omega (arith, same, low)),
        all_weaker (λ (l : Connection T). k.name < l.name) (λ (l : Connection T). l.name < name → has_waiting l ≡ false) (λ l later low. absurd (omega (arith, same, later, low))) present rising.0,
      )
  before_first name (k ∷ present) start (suc i) rising first at = by (λ is. before_first name present (start + 1) i rising.1 is at) (has_waiting k) refl first
    where
      by : (position_from has_waiting (start + 1) present ≡ Some (start + 1 + i) → AreSilentBefore name present) → (b : Bool) → has_waiting k ≡ b → cond b (Some start) (position_from has_waiting (start + 1) present) ≡ Some (start + suc i) → AreSilentBefore name (k ∷ present)
      by later true here is = absurd (let same : start ≡ start + suc i = cc in omega (arith, same))
      by later false here is = (λ low. here, later (is ∙ ap (λ (n : ℕ). Some n) (omega arith)))

  lower_are_silent : (name other : ℕ) (present : List (Connection T)) → AreSilentBefore name present → other < name → waiting_or [] (connection_in other present) ≡ []
  lower_are_silent name other [] all low = refl
  lower_are_silent name other (k ∷ present) all low = by (lower_are_silent name other present all.1 low) (other == k.name) refl
    where
      by : waiting_or [] (connection_in other present) ≡ [] → (b : Bool) → (other == k.name) ≡ b → waiting_or [] (cond b (Some k) (connection_in other present)) ≡ []
      by rest true is = no_bytes k.outbox.bytes (all.0 (let same : other ≡ k.name = grind (arith, nat_tests, is) in omega (arith, same, low)))
      by rest false is = rest

  -- the first for whom something waits has the least name of them all
  pub silent_before : (name other first : ℕ) (present : List (Connection T)) → AreRising present → Some first ≡ first_waiting 0 present → slice_get (map (λ (k : Connection T). k.name) present) first ≡ Some name → other < name → waiting_or [] (connection_in other present) ≡ []
  silent_before name other first present rising is at low =
      lower_are_silent name other present
      (before_first name present 0 first rising (sym (position_from-zero has_waiting present) ∙ mapped_some (position has_waiting present) first is ∙ ap (λ (n : ℕ). Some n) (omega arith)) at)
      low

  -- where nothing waits for anybody
  pub all_silent : (other : ℕ) (present : List (Connection T)) → None ≡ first_waiting 0 present → waiting_or [] (connection_in other present) ≡ []
  all_silent other present none = by (connection_in other present) refl
    where
      silent : AllByRecursion (λ k. has_waiting k ≡ false) present
      silent = none_passes has_waiting present (mapped_none (λ (i : ℕ). 0 + i) (position has_waiting present) none)

      by : (o : Option (Connection T)) → connection_in other present ≡ o → waiting_or [] o ≡ []
      by None is = refl
      by (Some k) is = no_bytes k.outbox.bytes (all_found (λ (l : Connection T). has_waiting l ≡ false) (λ (l : Connection T). other == l.name) present k silent is)
