-- What is made of the numbers from 1 on, the last first, and how many of them pass a test.
use Rattle.std.proofs.Common.{◌≡◌, ℕ, zero, suc, ◌+◌, ◌≤◌, Bool, true, false, if◌then◌else◌, List, [], ◌∷◌, ◌++◌, length, filter, map, reverse, refl, ap, sym, ◌∙◌, arith}
use Rattle.std.specs.List.{range_with_len}
use Rattle.std.proofs.lemmas.List.{length-append, reverse-append}
use Rattle.std.proofs.lemmas.List.Elements.{filter-append}
use Rattle.rig_laws.proofs.Lists.{range-more}

abbrev pub down : {X : Type 0} → (ℕ → X) → ℕ → List X
down f n = map f (reverse (range_with_len 1 n))

pub down-more : {X : Type 0} (f : ℕ → X) (n j : ℕ) → 1 + n ≡ j → down f (n + 1) ≡ f j ∷ down f n
down-more f n j is =
    ap (λ (names : List ℕ). map f (reverse names)) (sym (range-more 1 n j is)) ∙ ap (map f) (reverse-append (range_with_len 1 n) (j ∷ []))

pub down-same : {X : Type 0} (f g : ℕ → X) (n : ℕ) → ((c : ℕ) → 1 ≤ c → c ≤ n → f c ≡ g c) → down f n ≡ down g n
down-same f g zero same = refl
down-same {X} f g (suc n) same =
    let on : suc n ≡ n + 1 = omega arith in
    ap (down f) on ∙ down-more f n (suc n) (omega arith)
    ∙ ap (λ (x : X). x ∷ down f n) (same (suc n) (omega arith) (omega arith))
    ∙ ap (λ (xs : List X). g (suc n) ∷ xs) (down-same f g n (λ c low high. same c low (omega (arith, high))))
    ∙ sym (down-more g n (suc n) (omega arith)) ∙ sym (ap (down g) on)

counts_last : (xs : List ℕ) (j : ℕ) (passes : Bool) → length (xs ++ (if passes then j ∷ [] else [])) ≡ (if passes then length xs + 1 else length xs)
counts_last xs j true = length-append xs (j ∷ [])
counts_last xs j false = length-append xs [] ∙ omega arith

pub count-more : (f : ℕ → Bool) (n j : ℕ) → 1 + n ≡ j
    → length (filter f (range_with_len 1 (n + 1))) ≡ (if f j then length (filter f (range_with_len 1 n)) + 1 else length (filter f (range_with_len 1 n)))
count-more f n j is =
    ap (λ (names : List ℕ). length (filter f names)) (sym (range-more 1 n j is))
    ∙ ap length (filter-append f (range_with_len 1 n) (j ∷ []))
    ∙ counts_last (filter f (range_with_len 1 n)) j (f j)

pub count-all : (f : ℕ → Bool) (n : ℕ) → ((c : ℕ) → 1 ≤ c → c ≤ n → f c ≡ true) → length (filter f (range_with_len 1 n)) ≡ n
count-all f zero all = refl
count-all f (suc n) all =
    let on : suc n ≡ n + 1 = omega arith in
    let before : ℕ = length (filter f (range_with_len 1 n)) in
    ap (λ (count : ℕ). length (filter f (range_with_len 1 count))) on ∙ count-more f n (suc n) (omega arith)
    ∙ ap (λ b. if b then before + 1 else before) (all (suc n) (omega arith) (omega arith))
    ∙ ap (λ (count : ℕ). count + 1) (count-all f n (λ c low high. all c low (omega (arith, high))))
    ∙ sym on
