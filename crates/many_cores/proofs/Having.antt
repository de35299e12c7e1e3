-- Whether somebody of a name is there for a core.
use Rattle.std.proofs.Common.{◌≡◌, ℕ, zero, suc, ◌+◌, ◌<◌, ◌≤◌, Bool, true, false, cond, ◌==◌, List, [], ◌∷◌, length, map, slice_get, refl, ap, sym, ◌∙◌, arith, Some, is_some}
use Rattle.std.proofs.lemmas.Bool.Decides.{nat_tests}
use Rattle.std.proofs.lemmas.List.{length-map}
use Rattle.connections.specs.Table.{Connection, connection_in}

within : (xs : List ℕ) (i n : ℕ) → slice_get xs i ≡ Some n → i < length xs
within [] i n at = absurd (cc)
within (x ∷ xs) zero n at = omega arith
within (x ∷ xs) (suc i) n at = omega (arith, within xs i n at)

module _ {T : Type 0} (name : ℕ) where
  abbrev pub names_in : List (Connection T) → List ℕ
  names_in present = map (λ (k : Connection T). k.name) present

  pub is_found : (present : List (Connection T)) (i n : ℕ) → slice_get (names_in present) i ≡ Some n → (name == n) ≡ true → is_some (connection_in name present) ≡ true
  is_found [] i n at same = absurd (cc)
  is_found (k ∷ present) zero n at same = (let is : k.name ≡ n = cc in ap (λ (b : Bool). is_some (cond b (Some k) (connection_in name present))) (ap (λ (m : ℕ). name == m) is ∙ same))
  is_found (k ∷ present) (suc i) n at same = by (is_found present i n at same) (name == k.name)
    where
      by : is_some (connection_in name present) ≡ true → (b : Bool) → is_some (cond b (Some k) (connection_in name present)) ≡ true
      by rest true = refl
      by rest false = rest

  pub is_absent : (present : List (Connection T)) → ((i n : ℕ) → slice_get (names_in present) i ≡ Some n → (name == n) ≡ false) → is_some (connection_in name present) ≡ false
  is_absent [] others = refl
  is_absent (k ∷ present) others = ap (λ (b : Bool). is_some (cond b (Some k) (connection_in name present))) (others 0 k.name refl) ∙ is_absent present (λ i n at. others (suc i) n at)

  -- none in front of this place has the name
  abbrev pub NoneBefore : ℕ → List (Connection T) → Type 0
  NoneBefore place present = (i n : ℕ) → i < place → slice_get (names_in present) i ≡ Some n → (name == n) ≡ false

  pub none_at_all : (present : List (Connection T)) (place : ℕ) → length present ≤ place → NoneBefore place present → is_some (connection_in name present) ≡ false
  none_at_all present place all none =
      is_absent present (λ i n at. none i n (omega (arith, all, within (names_in present) i n at, length-map present (λ (k : Connection T). k.name))) at)

  pub one_more : (present : List (Connection T)) (place other : ℕ) → slice_get (names_in present) place ≡ Some other → (name ≡ other → ⊥) → NoneBefore place present → NoneBefore (place + 1) present
  one_more present place other at differs none i n before got = by (i == place) refl
    where
      here : i ≡ place → (name == n) ≡ false
      here same =
          let both : Some other ≡ Some n = sym at ∙ ap (slice_get (names_in present)) (sym same) ∙ got in
          let is : other ≡ n = cc in
          grind (arith, nat_tests, differs, is)

      by : (b : Bool) → (i == place) ≡ b → (name == n) ≡ false
      by true is = here (grind (arith, nat_tests, is))
      by false is = none i n (let less : i < place = grind (arith, nat_tests, is, before) in less) got
