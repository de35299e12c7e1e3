-- Lists that are taken through views.
use Rattle.std.proofs.Common.{◌≡◌, ℕ, ◌+◌, ◌<◌, List, [], ◌∷◌, length, get_or, take, map, ◌++◌, sym, ◌∙◌, ap}
use Rattle.std.proofs.lemmas.List.{append-nil, map_push, take_more}
use Rattle.std.proofs.lemmas.Grind.{flat_map-append}
use Rattle.std.specs.List.{flat_map}

-- what a list gives up to a place, and what its next element gives
pub flat_map-more : {A B C : Type 0} (f : B → List C) (view : A → B) (xs : List A) (i : ℕ) (x : A) (old new : List C) → i < length xs → old ≡ flat_map f (map view (take i xs))
    → new ≡ old ++ f (view (get_or xs i x)) → new ≡ flat_map f (map view (take (i + 1) xs))
flat_map-more {A} {B} {C} f view xs i x old new within before more =
    let here : B = view (get_or xs i x) in
    let taken : map view (take (i + 1) xs) ≡ map view (take i xs) ++ here ∷ [] = ap (map view) (take_more xs i x within) ∙ map_push view (take i xs) (get_or xs i x) in
    let last : flat_map f (here ∷ []) ≡ f here = append-nil (f here) in
    more
    ∙ ap (λ (l : List C). l ++ f here) before
    ∙ ap (λ (l : List C). flat_map f (map view (take i xs)) ++ l) (sym last)
    ∙ sym (flat_map-append f (map view (take i xs)) (here ∷ []))
    ∙ ap (flat_map f) (sym taken)
