-- The first element of a list that passes a test, and what holds of it.
use Rattle.std.proofs.Common.{◌≡◌, ℕ, zero, suc, ◌+◌, ◌<◌, ◌≤◌, Bool, true, false, List, [], ◌∷◌, Option, Some, None, length, get_or, take, map, refl, subst, arith}
use Rattle.std.proofs.lemmas.List.{take_all}
use Rattle.std.proofs.lemmas.Option.{same_Some}
use Rattle.std.specs.Prelude.{find, cond}
use Rattle.std.specs.List.{AllByRecursion}

none-of : {A : Type 0} (b : Bool) (x : A) (later : Option A) → cond b (Some x) later ≡ None → (b ≡ false) × (later ≡ None)
none-of true x later is = absurd cc
none-of false x later is = (refl, is)

-- the element at a place, where it passes and none before it does
pub find-at : {A B : Type 0} (test : B → Bool) (view : A → B) (xs : List A) (i : ℕ) (d : A) → i < length xs → find test (map view (take i xs)) ≡ None → test (view (get_or xs i d)) ≡ true
    → find test (map view xs) ≡ Some (view (get_or xs i d))
find-at test view [] i d within none passes = absurd (omega arith)
find-at test view (first ∷ xs) zero d within none passes = rw (passes) refl
find-at test view (first ∷ xs) (suc i) d within none passes =
    let p = none-of (test (view first)) (view first) (find test (map view (take i xs))) none in
    rw (p.0) (find-at test view xs i d (omega arith) p.1 passes)

find-suc : {A B : Type 0} (test : B → Bool) (view : A → B) (xs : List A) (i : ℕ) (d : A) → i < length xs → find test (map view (take i xs)) ≡ None → test (view (get_or xs i d)) ≡ false
    → find test (map view (take (suc i) xs)) ≡ None
find-suc test view [] i d within none fails = absurd (omega arith)
find-suc test view (first ∷ xs) zero d within none fails = rw (fails) refl
find-suc test view (first ∷ xs) (suc i) d within none fails =
    let p = none-of (test (view first)) (view first) (find test (map view (take i xs))) none in
    rw (p.0) (find-suc test view xs i d (omega arith) p.1 fails)

-- none up to the next place, where the element there doesn't pass
pub find-more : {A B : Type 0} (test : B → Bool) (view : A → B) (xs : List A) (i : ℕ) (d : A) → i < length xs → find test (map view (take i xs)) ≡ None → test (view (get_or xs i d)) ≡ false
    → find test (map view (take (i + 1) xs)) ≡ None
find-more test view xs i d within none fails =
    let more : suc i ≡ i + 1 = omega arith in
    subst (λ (n : ℕ). find test (map view (take n xs)) ≡ None) more (find-suc test view xs i d within none fails)

pub find-none : {A B : Type 0} (test : B → Bool) (view : A → B) (xs : List A) (i : ℕ) → length xs ≤ i → find test (map view (take i xs)) ≡ None → find test (map view xs) ≡ None
find-none {A} test view xs i all none = subst (λ (l : List A). find test (map view l) ≡ None) (take_all i xs all) none

pub holds-here : {A : Type 0} (P : A → Type 0) (b : Bool) (first x : A) (later : Option A) → cond b (Some first) later ≡ Some x → P first → (later ≡ Some x → P x) → P x
holds-here P true first x later is here rest = subst P (same_Some first x is) here
holds-here P false first x later is here rest = rest is

-- what holds of all elements holds of the one that is found
pub find-holds : {A : Type 0} (P : A → Type 0) (test : A → Bool) (xs : List A) (x : A) → AllByRecursion P xs → find test xs ≡ Some x → P x
find-holds P test [] x all is = absurd cc
find-holds P test (first ∷ xs) x all is = holds-here P (test first) first x (find test xs) is all.0 (find-holds P test xs x all.1)
