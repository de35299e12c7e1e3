-- Numbers and the keys that stand beside them.
use Rattle.std.proofs.Common.{◌≡◌, ◌↔◌, ⊎_elim, ℕ, zero, suc, ◌<◌, ◌≤◌, Bool, true, false, ◌||◌, ◌==◌, nat_lt, List, [], ◌∷◌, length, get_or, subst, refl, ap, sym, ◌∙◌, arith, Contains}
use Rattle.std.specs.List.{insert, remove}
use Rattle.std.specs.List.Sorted.{IsPartitionedBy, IsPartitionPoint}
use Rattle.std.proofs.lemmas.Bool.Decides.{nat_tests}
use Rattle.std.proofs.lemmas.Bool.{eqb-true, eq-eqb}
use Rattle.std.proofs.lemmas.List.{get_or_default}
use Rattle.kit_bytes.specs.Sorted.{IsInOrder}
use Rattle.kit_bytes.proofs.Sorted.{in_order_map, partitioned}
use Rattle.proxy_history.specs.Connections.{contains}
use Rattle.proxy_history.proofs.Lists.{Contains-nil, Contains-cons, Contains-cons_cases}
use Rattle.number_space.specs.Index.{Numbered, beside, AreRising, numbers_of, IsBelowAt, IsPlaceOf, NumberAt}

abbrev entry : ℕ → ℕ → Numbered
entry number key = record { number = number; key = key }

pub numbers_beside : (numbers keys : List ℕ) → length keys ≡ length numbers → numbers_of (beside numbers keys) ≡ numbers
numbers_beside [] keys same = refl
numbers_beside (number ∷ numbers) [] same = absurd (omega arith)
numbers_beside (number ∷ numbers) (key ∷ keys) same = ap (λ (l : List ℕ). number ∷ l) (numbers_beside numbers keys (omega arith))

pub length_beside : (numbers keys : List ℕ) → length keys ≡ length numbers → length (beside numbers keys) ≡ length numbers
length_beside [] keys same = refl
length_beside (number ∷ numbers) [] same = absurd (omega arith)
length_beside (number ∷ numbers) (key ∷ keys) same = ap suc (length_beside numbers keys (omega arith))

pub number_beside : (numbers keys : List ℕ) (place : ℕ) (d : Numbered) → length keys ≡ length numbers → (get_or (beside numbers keys) place d).number ≡ get_or numbers place d.number
number_beside [] keys place d same = refl
number_beside (number ∷ numbers) [] place d same = absurd (omega arith)
number_beside (number ∷ numbers) (key ∷ keys) zero d same = refl
number_beside (number ∷ numbers) (key ∷ keys) (suc place) d same = number_beside numbers keys place d (omega arith)

pub key_beside : (numbers keys : List ℕ) (place : ℕ) (d : Numbered) → length keys ≡ length numbers → (get_or (beside numbers keys) place d).key ≡ get_or keys place d.key
key_beside [] [] place d same = refl
key_beside [] (key ∷ keys) place d same = absurd (omega arith)
key_beside (number ∷ numbers) [] place d same = absurd (omega arith)
key_beside (number ∷ numbers) (key ∷ keys) zero d same = refl
key_beside (number ∷ numbers) (key ∷ keys) (suc place) d same = key_beside numbers keys place d (omega arith)

pub insert_beside : (numbers keys : List ℕ) (place number key : ℕ) → length keys ≡ length numbers → beside (insert numbers place number) (insert keys place key) ≡ insert (beside numbers keys) place (entry number key)
insert_beside numbers keys zero number key same = refl
insert_beside [] [] (suc place) number key same = refl
insert_beside [] (k ∷ keys) (suc place) number key same = absurd (omega arith)
insert_beside (n ∷ numbers) [] (suc place) number key same = absurd (omega arith)
insert_beside (n ∷ numbers) (k ∷ keys) (suc place) number key same = ap (λ (l : List Numbered). entry n k ∷ l) (insert_beside numbers keys place number key (omega arith))

pub remove_beside : (numbers keys : List ℕ) (place : ℕ) → length keys ≡ length numbers → beside (remove numbers place) (remove keys place) ≡ remove (beside numbers keys) place
remove_beside [] [] zero same = refl
remove_beside [] [] (suc place) same = refl
remove_beside [] (k ∷ keys) place same = absurd (omega arith)
remove_beside (n ∷ numbers) [] place same = absurd (omega arith)
remove_beside (n ∷ numbers) (k ∷ keys) zero same = refl
remove_beside (n ∷ numbers) (k ∷ keys) (suc place) same = ap (λ (l : List Numbered). entry n k ∷ l) (remove_beside numbers keys place (omega arith))

-- ---- what is read of the numbers ----

pub below_there : (numbers keys : List ℕ) (place number other : ℕ) → length keys ≡ length numbers → place < length numbers → other ≡ get_or numbers place other → other < number → IsBelowAt number (beside numbers keys) place
below_there numbers keys place number other same within is less = record {
  within = omega (arith, length_beside numbers keys same, within);
  below = λ d. ap (λ (n : ℕ). nat_lt n number) (number_beside numbers keys place d same ∙ get_or_default numbers place d.number other within ∙ sym is) ∙ test other number less;
}
  where
    test : (m n : ℕ) → m < n → nat_lt m n ≡ true
    test m n less = grind (arith, nat_tests, less)

module _ (numbers keys : List ℕ) (place number other : ℕ) (same : length keys ≡ length numbers) (within : place < length numbers) (is : other ≡ get_or numbers place other) where
  read : (d : Numbered) → (get_or (beside numbers keys) place d).number ≡ other
  read d = number_beside numbers keys place d same ∙ get_or_default numbers place d.number other within ∙ sym is

  pub not_below : (other < number → ⊥) → IsBelowAt number (beside numbers keys) place → ⊥
  not_below more at = more (less (ap (λ (n : ℕ). nat_lt n number) (sym (read (entry 0 0))) ∙ at.below (entry 0 0)))
    where
      less : nat_lt other number ≡ true → other < number
      less below = grind (arith, nat_tests, below)

  pub number_there : number ≡ other → NumberAt number (beside numbers keys) place
  number_there here = record {
    within = omega (arith, length_beside numbers keys same, within);
    named = λ d. eq-eqb number (get_or (beside numbers keys) place d).number (here ∙ sym (read d));
  }

  pub not_there : (number ≡ other → ⊥) → NumberAt number (beside numbers keys) place → ⊥
  not_there differs at = differs (eqb-true number (get_or (beside numbers keys) place (entry 0 0)).number (at.named (entry 0 0)) ∙ read (entry 0 0))

pub none_below : (numbers keys : List ℕ) (place number : ℕ) → length keys ≡ length numbers → length numbers ≤ place → IsBelowAt number (beside numbers keys) place → ⊥
none_below numbers keys place number same behind at = omega (arith, length_beside numbers keys same, at.within)

pub none_there : (numbers keys : List ℕ) (place number : ℕ) → length keys ≡ length numbers → length numbers ≤ place → NumberAt number (beside numbers keys) place → ⊥
none_there numbers keys place number same behind at = omega (arith, length_beside numbers keys same, at.within)

pub place_beside : (numbers keys : List ℕ) (place number : ℕ) → length keys ≡ length numbers → place ≤ length numbers → IsPartitionPoint (λ n. nat_lt n number ≡ true) (λ n. nat_lt n number ≡ false) numbers place → IsPlaceOf number (beside numbers keys) place
place_beside numbers keys place number same within point = record {
  within = omega (arith, length_beside numbers keys same);
  before = λ k d low high. ap (λ (n : ℕ). nat_lt n number) (number_beside numbers keys k d same) ∙ point.0 k d.number low high;
  behind = λ k d low high. ap (λ (n : ℕ). nat_lt n number) (number_beside numbers keys k d same) ∙ point.1 k d.number low (omega (arith, length_beside numbers keys same));
}

-- ---- rising order ----

pub rising_numbers : (index : List Numbered) → AreRising index → IsInOrder (λ m n. m < n) (numbers_of index)
rising_numbers index rising = in_order_map (λ m n. m < n) (λ (e : Numbered). e.number) index rising

pub rising_beside : (numbers keys : List ℕ) → length keys ≡ length numbers → AreRising (beside numbers keys) → IsInOrder (λ m n. m < n) numbers
rising_beside numbers keys same rising = subst (IsInOrder (λ m n. m < n)) (numbers_beside numbers keys same) (rising_numbers (beside numbers keys) rising)

pub numbers_halved : (number : ℕ) (numbers : List ℕ) → IsInOrder (λ m n. m < n) numbers → IsPartitionedBy (λ n. nat_lt n number) numbers
numbers_halved number numbers rising = partitioned (λ m n. m < n) (λ n. nat_lt n number) (λ m n less below. grind (arith, nat_tests, less, below)) numbers rising

-- ---- the same numbers ----

contained : (number : ℕ) (numbers : List ℕ) → contains number numbers ≡ true → Contains numbers number
contained number [] is = absurd (cc)
contained number (first ∷ numbers) is = by (number == first) refl is (λ rest. Contains-cons number first numbers (contained number numbers rest))
  where
    by : (b : Bool) → (number == first) ≡ b → (b || contains number numbers) ≡ true → (contains number numbers ≡ true → Contains (first ∷ numbers) number) → Contains (first ∷ numbers) number
    by true here is behind = (0, omega arith, sym (eqb-true number first here))
    by false other is behind = behind is

contains_it : (number : ℕ) (numbers : List ℕ) → Contains numbers number → contains number numbers ≡ true
contains_it number [] at = absurd (Contains-nil number at)
contains_it number (first ∷ numbers) at = ⊎_elim (λ (is : first ≡ number). here is) (λ (rest : Contains numbers number). later (number == first) (contains_it number numbers rest)) (Contains-cons_cases number first numbers at)
  where
    here : first ≡ number → (number == first || contains number numbers) ≡ true
    here is = ap (λ (b : Bool). b || contains number numbers) (eq-eqb number first (sym is))

    later : (b : Bool) → contains number numbers ≡ true → (b || contains number numbers) ≡ true
    later true rest = refl
    later false rest = rest

pub contained_same : (numbers other : List ℕ) → ((n : ℕ) → contains n numbers ≡ contains n other) → (number : ℕ) → Contains numbers number ↔ Contains other number
contained_same numbers other same number = (λ at. contained number other (sym (same number) ∙ contains_it number numbers at), λ at. contained number numbers (same number ∙ contains_it number other at))
