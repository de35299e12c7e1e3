-- Lists that loops make, one element after another.
use Rattle.std.proofs.Common.{◌≡◌, ℕ, ◌+◌, ◌<◌, ◌≤◌, List, [], ◌∷◌, ◌++◌, length, take, get_or, map, replicate, Option, Some, None, option_map, refl, sym, ap, ap₂, ◌∙◌, arith, append_assoc}
use Rattle.std.specs.Prelude.{filter_map}
use Rattle.std.specs.List.{enumerate_from}
use Rattle.std.proofs.lemmas.List.{take_more, map-append, length-take-le, replicate-append-replicate}
use Rattle.std.proofs.lemmas.List.Elements.{filter_map-append}
use Rattle.sim_mbim.specs.Places.{kept_from}

-- ---- copies of one value ----

pub copies-more : {A : Type 0} (front now new : List A) (a : A) (n m : ℕ) → now ≡ front ++ replicate n a → new ≡ now ++ a ∷ [] → m ≡ n + 1 → new ≡ front ++ replicate m a
copies-more front now new a n m is pushed more =
    pushed ∙ ap (λ l. l ++ a ∷ []) is ∙ append_assoc front (replicate n a) (a ∷ []) ∙ ap (λ l. front ++ l) (replicate-append-replicate n 1 a) ∙ ap (λ k. front ++ replicate k a) (sym more)

-- ---- what is kept ----

enumerate-append : {A : Type 0} (n : ℕ) (xs ys : List A) → enumerate_from n (xs ++ ys) ≡ enumerate_from n xs ++ enumerate_from (n + length xs) ys
enumerate-append n [] ys = ap (λ k. enumerate_from k ys) (omega arith)
enumerate-append n (x ∷ xs) ys =
    let places : n + 1 + length xs ≡ n + length (x ∷ xs) = omega arith in
    ap (λ l. (n, x) ∷ l) (enumerate-append (n + 1) xs ys ∙ ap (λ k. enumerate_from (n + 1) xs ++ enumerate_from k ys) places)

kept-more : {A : Type 0} (places : List (Option A)) (index i : ℕ) (x : Option A) → i < length places → kept_from index (take (i + 1) places) ≡ kept_from index (take i places) ++ kept_from (index + i) (get_or places i x ∷ [])
kept-more {A} places index i x within =
    let there : ℕ × Option A → Option (ℕ × A) = λ place. option_map (λ item. (place.0, item)) place.1 in
    let long : length (take i places) ≡ i = length-take-le i places (omega (arith, within)) in
    ap (kept_from index) (take_more places i x within)
    ∙ ap (filter_map there) (enumerate-append index (take i places) (get_or places i x ∷ []))
    ∙ filter_map-append there (enumerate_from index (take i places)) (enumerate_from (index + length (take i places)) (get_or places i x ∷ []))
    ∙ ap (λ k. kept_from index (take i places) ++ kept_from (index + k) (get_or places i x ∷ [])) long

pub kept-step : {A B : Type 0} (f : ℕ × A → B) (made new : List B) (places : List (Option A)) (index i : ℕ) (x : Option A) → made ≡ map f (kept_from 1 (take i places)) → i < length places → index ≡ 1 + i → x ≡ get_or places i x
    → new ≡ made ++ map f (kept_from index (x ∷ [])) → new ≡ map f (kept_from 1 (take (i + 1) places))
kept-step f made new places index i x alike within here same is =
    is
    ∙ ap₂ (λ a b. a ++ b) alike (ap (λ n. map f (kept_from n (x ∷ []))) here ∙ ap (λ y. map f (kept_from (1 + i) (y ∷ []))) same)
    ∙ sym (map-append f (kept_from 1 (take i places)) (kept_from (1 + i) (get_or places i x ∷ [])))
    ∙ ap (map f) (sym (kept-more places 1 i x within))
