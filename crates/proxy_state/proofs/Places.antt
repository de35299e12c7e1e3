-- The connection of a place, by its name.
use Rattle.std.proofs.Common.{◌≡◌, ℕ, zero, suc, ◌+◌, ◌<◌, true, false, List, [], ◌∷◌, length, drop, get_or, slice_get, refl, ap, sym, subst, arith, ◌==◌, Some, if◌then◌else◌}
use Rattle.std.proofs.lemmas.Bool.Decides.{nat_tests}
use Rattle.std.proofs.lemmas.List.{get_or_default}
use Rattle.kit_bytes.specs.Sorted.{IsInOrder}
use Rattle.kit_bytes.proofs.Lists.{all_at}
use Rattle.connections.specs.Table.{Connection, AreRising, connection_in, changed}
use Rattle.connections.specs.Table as tables
use Rattle.proxy_state.specs.Chosen.{StandsAt, names_in}

same_name : {T : Type 0} (s : Connection T) → (s.name == s.name) ≡ true
same_name s = grind (arith, nat_tests)

module _ {T : Type 0} (s : Connection T) where
  -- one that stands before it has another name
  earlier : (t : Connection T) (present : List (Connection T)) (i : ℕ) → AreRising (t ∷ present) → i < length present → StandsAt s present i → (s.name == t.name) ≡ false
  unfolding IsInOrder
  earlier t present i rising within at =
      let less : t.name < s.name = subst (λ (u : Connection T). t.name < u.name) (sym at) (all_at (λ (u : Connection T). t.name < u.name) present i s rising.0 within) in grind (arith, nat_tests, less)

  later : (t : Connection T) (present : List (Connection T)) → AreRising (t ∷ present) → AreRising present
  unfolding IsInOrder
  later t present rising = rising.1

  pub found : (present : List (Connection T)) (i : ℕ) → AreRising present → i < length present → StandsAt s present i → connection_in s.name present ≡ Some s
  found [] i rising within at = absurd (omega arith)
  found (t ∷ present) zero rising within at = rw (← at) (rw (same_name s) refl)
  found (t ∷ present) (suc i) rising within at = rw (earlier t present i rising (omega arith) at) (found present i (later t present rising) (omega arith) at)

  pub drop_updated : (f : Connection T → Connection T) (present : List (Connection T)) (i : ℕ) → AreRising present → i < length present → StandsAt s present i → drop (suc i) (changed s.name f present) ≡ drop (suc i) present
  unfolding changed
  drop_updated f [] i rising within at = absurd (omega arith)
  drop_updated f (t ∷ present) zero rising within at = rw (← at) (rw (same_name s) refl)
  drop_updated f (t ∷ present) (suc i) rising within at = rw (earlier t present i rising (omega arith) at) (drop_updated f present i (later t present rising) (omega arith) at)

  pub drop_removed : (present : List (Connection T)) (i : ℕ) → AreRising present → i < length present → StandsAt s present i → drop i (tables.without s.name present) ≡ drop (suc i) present
  unfolding tables.without
  drop_removed [] i rising within at = absurd (omega arith)
  drop_removed (t ∷ present) zero rising within at = rw (← at) (rw (same_name s) refl)
  drop_removed (t ∷ present) (suc i) rising within at = rw (earlier t present i rising (omega arith) at) (drop_removed present i (later t present rising) (omega arith) at)

  pub length_removed : (present : List (Connection T)) (i : ℕ) → AreRising present → i < length present → StandsAt s present i → length (tables.without s.name present) + 1 ≡ length present
  unfolding tables.without
  length_removed [] i rising within at = absurd (omega arith)
  length_removed (t ∷ present) zero rising within at = rw (← at) (rw (same_name s) (omega arith))
  length_removed (t ∷ present) (suc i) rising within at =
      let rest = length_removed present i (later t present rising) (omega arith) at in rw (earlier t present i rising (omega arith) at) (omega (arith, rest))

  -- it is changed once more
  pub changed_again : (f g : Connection T → Connection T) (present : List (Connection T)) (i : ℕ) → AreRising present → i < length present → StandsAt s present i → tables.changed_at i g (changed s.name f present) ≡ changed s.name (λ l. g (f l)) present
  unfolding changed
  changed_again f g [] i rising within at = absurd (omega arith)
  changed_again f g (t ∷ present) zero rising within at = rw (← at) (rw (same_name s) refl)
  changed_again f g (t ∷ present) (suc i) rising within at = rw (earlier t present i rising (omega arith) at) (ap (λ (l : List (Connection T)). t ∷ l) (changed_again f g present i (later t present rising) (omega arith) at))

pub length_updated : {T : Type 0} (c : ℕ) (f : Connection T → Connection T) (present : List (Connection T)) → length (changed c f present) ≡ length present
unfolding changed
length_updated c f [] = refl
length_updated c f (t ∷ present) =
    elim (c == t.name) as (λ b. length (if b then f t ∷ present else t ∷ changed c f present) ≡ length (t ∷ present)) [ true ↦ refl | false ↦ ap (λ (n : ℕ). suc n) (length_updated c f present) ]

-- ---- the connection of a place ----

-- one that stands there, where `other` is any
pub connection_at : {T : Type 0} → T → List (Connection T) → ℕ → Connection T
connection_at other present index = get_or present index (record { name = 0; client = other; rest = []; outbox = record { bytes = []; capacity = 0 } })

pub stands_at : {T : Type 0} (other : T) (present : List (Connection T)) (index : ℕ) → index < length present → StandsAt (connection_at other present index) present index
unfolding connection_at
stands_at other present index within = get_or_default present index (record { name = 0; client = other; rest = []; outbox = record { bytes = []; capacity = 0 } }) (connection_at other present index) within

pub name_got : {T : Type 0} (present : List (Connection T)) (index : ℕ) (name : ℕ) → index < length present → ((k : Connection T) → k ≡ get_or present index k → name ≡ k.name) → slice_get (names_in present) index ≡ Some name
name_got [] index name within named = absurd (omega arith)
name_got (k ∷ present) zero name within named = ap Some (sym (named k refl))
name_got (k ∷ present) (suc index) name within named = name_got present index name (omega arith) named
