-- The key of a number, in a list that has both.
use Rattle.std.proofs.Common.{◌≡◌, ℕ, zero, suc, ◌<◌, Bool, true, false, cond, ◌||◌, ◌==◌, List, [], ◌∷◌, ◌++◌, length, map, get_or, set, Option, Some, None, is_some, refl, ap, sym, ◌∙◌, arith}
use Rattle.std.specs.List.{AllByRecursion, IsDistinct, insert, remove}
use Rattle.std.proofs.lemmas.Bool.Decides.{nat_tests}
use Rattle.std.proofs.lemmas.List.Edits.{insert_end}
use Rattle.proxy_history.specs.Connections.{contains}
use Rattle.number_space.specs.Index.{key_by}

flipped_at : (j k n : ℕ) → (j == k) ≡ false → (n == k) ≡ true → (n == j) ≡ false
flipped_at j k n apart same = grind (arith, nat_tests, apart, same)

module _ {X : Type 0} (number_of key_of : X → ℕ) where
  abbrev key : ℕ → List X → Option ℕ
  key n xs = key_by number_of key_of n xs

  abbrev AreApart : List X → Type 0
  AreApart xs = IsDistinct (λ m n. m == n) (map number_of xs)

  -- the element there has the number
  abbrev HasAt : ℕ → List X → ℕ → Type 0
  HasAt n xs i = (d : X) → (n == number_of (get_or xs i d)) ≡ true

  here : (n : ℕ) (x : X) (rest : Option ℕ) → (n == number_of x) ≡ true → cond (n == number_of x) (Some (key_of x)) rest ≡ Some (key_of x)
  here n x rest is = ap (λ (b : Bool). cond b (Some (key_of x)) rest) is

  there : (n : ℕ) (x : X) (rest : Option ℕ) → (n == number_of x) ≡ false → cond (n == number_of x) (Some (key_of x)) rest ≡ rest
  there n x rest other = ap (λ (b : Bool). cond b (Some (key_of x)) rest) other

  behind : (n : ℕ) (x : X) (old new : Option ℕ) → new ≡ old → cond (n == number_of x) (Some (key_of x)) new ≡ cond (n == number_of x) (Some (key_of x)) old
  behind n x old new same = ap (λ (o : Option ℕ). cond (n == number_of x) (Some (key_of x)) o) same

  pub key-insert_other : (n i : ℕ) (xs : List X) (x : X) → (n == number_of x) ≡ false → key n (insert xs i x) ≡ key n xs
  key-insert_other n zero xs x other = there n x (key n xs) other
  key-insert_other n (suc i) [] x other = there n x None other
  key-insert_other n (suc i) (y ∷ ys) x other = behind n y (key n ys) (key n (insert ys i x)) (key-insert_other n i ys x other)

  pub key-insert_same : (n i : ℕ) (xs : List X) (x : X) → (n == number_of x) ≡ true → key n xs ≡ None → key n (insert xs i x) ≡ Some (key_of x)
  key-insert_same n zero xs x same none = here n x (key n xs) same
  key-insert_same n (suc i) [] x same none = here n x None same
  key-insert_same n (suc i) (y ∷ ys) x same none = by (n == number_of y) refl none (λ rest. key-insert_same n i ys x same rest)
    where
      by : (b : Bool) → (n == number_of y) ≡ b → cond b (Some (key_of y)) (key n ys) ≡ None → (key n ys ≡ None → key n (insert ys i x) ≡ Some (key_of x)) → cond (n == number_of y) (Some (key_of y)) (key n (insert ys i x)) ≡ Some (key_of x)
      by true is none later = absurd (cc)
      by false other none later = there n y (key n (insert ys i x)) other ∙ later none

  pub key-push_other : (n : ℕ) (xs : List X) (x : X) → (n == number_of x) ≡ false → key n (xs ++ x ∷ []) ≡ key n xs
  key-push_other n xs x other = ap (key n) (sym (insert_end xs x)) ∙ key-insert_other n (length xs) xs x other

  pub key-push_same : (n : ℕ) (xs : List X) (x : X) → (n == number_of x) ≡ true → key n xs ≡ None → key n (xs ++ x ∷ []) ≡ Some (key_of x)
  key-push_same n xs x same none = ap (key n) (sym (insert_end xs x)) ∙ key-insert_same n (length xs) xs x same none

  pub key-remove_other : (n i : ℕ) (xs : List X) → i < length xs → ((d : X) → (n == number_of (get_or xs i d)) ≡ false) → key n (remove xs i) ≡ key n xs
  key-remove_other n i [] within other = absurd (omega arith)
  key-remove_other n zero (x ∷ xs) within other = sym (there n x (key n xs) (other x))
  key-remove_other n (suc i) (x ∷ xs) within other = behind n x (key n xs) (key n (remove xs i)) (key-remove_other n i xs (omega arith) other)

  -- a number that differs from all has no key
  key-apart : (first n : ℕ) (xs : List X) → (n == first) ≡ true → AllByRecursion (λ m. (first == m) ≡ false) (map number_of xs) → key n xs ≡ None
  key-apart first n [] same apart = refl
  key-apart first n (x ∷ xs) same apart = there n x (key n xs) (other first (number_of x) n apart.0 same) ∙ key-apart first n xs same apart.1
    where
      other : (j k n : ℕ) → (j == k) ≡ false → (n == j) ≡ true → (n == k) ≡ false
      other j k n apart same = grind (arith, nat_tests, apart, same)

  -- the first differs from one behind it
  first_apart : (first n i : ℕ) (xs : List X) → i < length xs → HasAt n xs i → AllByRecursion (λ m. (first == m) ≡ false) (map number_of xs) → (n == first) ≡ false
  first_apart first n i [] within has apart = absurd (omega arith)
  first_apart first n zero (x ∷ xs) within has apart = flipped_at first (number_of x) n apart.0 (has x)
  first_apart first n (suc i) (x ∷ xs) within has apart = first_apart first n i xs (omega arith) has apart.1

  pub key-remove_same : (n i : ℕ) (xs : List X) → i < length xs → HasAt n xs i → AreApart xs → key n (remove xs i) ≡ None
  unfolding IsDistinct
  key-remove_same n i [] within has apart = absurd (omega arith)
  key-remove_same n zero (x ∷ xs) within has apart = key-apart (number_of x) n xs (has x) apart.0
  key-remove_same n (suc i) (x ∷ xs) within has apart = there n x (key n (remove xs i)) (first_apart (number_of x) n i xs (omega arith) has apart.0) ∙ key-remove_same n i xs (omega arith) has apart.1

  pub key-at : (n i : ℕ) (xs : List X) (d : X) → i < length xs → HasAt n xs i → AreApart xs → key n xs ≡ Some (key_of (get_or xs i d))
  unfolding IsDistinct
  key-at n i [] d within has apart = absurd (omega arith)
  key-at n zero (x ∷ xs) d within has apart = here n x (key n xs) (has x)
  key-at n (suc i) (x ∷ xs) d within has apart = there n x (key n xs) (first_apart (number_of x) n i xs (omega arith) has apart.0) ∙ key-at n i xs d (omega arith) has apart.1

  pub key-set : (n i : ℕ) (xs : List X) (x : X) → ((d : X) → number_of x ≡ number_of (get_or xs i d)) → ((d : X) → key_of x ≡ key_of (get_or xs i d)) → key n (set xs i x) ≡ key n xs
  key-set n i [] x number same = refl
  key-set n zero (y ∷ ys) x number same = ap (λ (m : ℕ). cond (n == m) (Some (key_of x)) (key n ys)) (number y) ∙ ap (λ (k : ℕ). cond (n == number_of y) (Some k) (key n ys)) (same y)
  key-set n (suc i) (y ∷ ys) x number same = behind n y (key n ys) (key n (set ys i x)) (key-set n i ys x number same)

  pub key-map : (f : X → X) → ((x : X) → number_of (f x) ≡ number_of x) → ((x : X) → key_of (f x) ≡ key_of x) → (n : ℕ) (xs : List X) → key n (map f xs) ≡ key n xs
  key-map f number same n [] = refl
  key-map f number same n (x ∷ xs) =
      ap (λ (m : ℕ). cond (n == m) (Some (key_of (f x))) (key n (map f xs))) (number x) ∙ ap (λ (k : ℕ). cond (n == number_of x) (Some k) (key n (map f xs))) (same x)
      ∙ behind n x (key n xs) (key n (map f xs)) (key-map f number same n xs)

  pub key-contains : (n : ℕ) (xs : List X) → is_some (key n xs) ≡ contains n (map number_of xs)
  key-contains n [] = refl
  key-contains n (x ∷ xs) =
      elim (n == number_of x) as (λ b. is_some (cond b (Some (key_of x)) (key n xs)) ≡ (b || contains n (map number_of xs))) [ true ↦ refl | false ↦ key-contains n xs ]

  pub key-none : (n : ℕ) (xs : List X) → contains n (map number_of xs) ≡ false → key n xs ≡ None
  key-none n xs none = by (key n xs) (key-contains n xs ∙ none)
    where
      by : (o : Option ℕ) → is_some o ≡ false → o ≡ None
      by None e = refl
      by (Some k) e = absurd (cc)

  -- where the key of a number stands
  pub record Found (n k : ℕ) (xs : List X) : Type 0 where
    pub at : ℕ
    pub within : at < length xs
    pub has : HasAt n xs at
    pub keyed : (d : X) → key_of (get_or xs at d) ≡ k

  pub found : (n k : ℕ) (xs : List X) → key n xs ≡ Some k → Found n k xs
  found n k [] is = absurd (cc)
  found n k (x ∷ xs) is = by (n == number_of x) refl is (found n k xs)
    where
      by : (b : Bool) → (n == number_of x) ≡ b → cond b (Some (key_of x)) (key n xs) ≡ Some k → (key n xs ≡ Some k → Found n k xs) → Found n k (x ∷ xs)
      by true same is later = record { at = 0; within = omega arith; has = λ d. same; keyed = λ d. cc }
      by false other is later = let rest = later is in record { at = suc rest.at; within = omega (arith, rest.within); has = rest.has; keyed = rest.keyed }
