-- How the text of a list grows, element by element.
use Rattle.std.proofs.Common.{◌≡◌, ℕ, ◌+◌, ◌<◌, List, [], ◌∷◌, ◌++◌, length, take, get_or, map, sym, ◌∙◌, ap, arith, append_assoc, add-zero, decimal}
use Rattle.std.proofs.lemmas.List.{append-nil, map_more, length-map, length-take-le}
use Rattle.print_text.specs.Lines.{each_text}

-- one element more
each_text-push : {V : Type 0} (shown : List ℕ → V → List ℕ) (place : ℕ) (values : List V) (value : V)
    → each_text shown place (values ++ value ∷ []) ≡ each_text shown place values ++ shown (decimal (place + length values)) value
each_text-push shown place [] value = append-nil (shown (decimal place) value) ∙ ap (λ (n : ℕ). shown (decimal n) value) (sym (add-zero place))
each_text-push shown place (first ∷ values) value =
    let same : place + 1 + length values ≡ place + length (first ∷ values) = omega arith in
    ap (λ (l : List ℕ). shown (decimal place) first ++ l) (each_text-push shown (place + 1) values value ∙ ap (λ (n : ℕ). each_text shown (place + 1) values ++ shown (decimal n) value) same)
    ∙ sym (append_assoc (shown (decimal place) first) (each_text shown (place + 1) values) (shown (decimal (place + length (first ∷ values))) value))

-- behind the elements so far, one more with its name
pub elements-more : {X V : Type 0} (shown : List ℕ → V → List ℕ) (view : X → V) (items : List X) (i : ℕ) (item : X) (before now new name : List ℕ) → i < length items → item ≡ get_or items i item → name ≡ decimal (i + 1)
    → now ≡ before ++ each_text shown 1 (map view (take i items)) → new ≡ now ++ shown name (view item) → new ≡ before ++ each_text shown 1 (map view (take (i + 1) items))
elements-more {X} {V} shown view items i item before now new name less is named so_far adds =
    let done : List V = map view (take i items) in
    let step : map view (take (i + 1) items) ≡ done ++ view item ∷ [] = map_more view items i item less ∙ ap (λ (x : X). done ++ view x ∷ []) (sym is) in
    let place : 1 + length done ≡ i + 1 = omega (arith, length-map (take i items) view, length-take-le i items (omega (arith, less))) in
    let last : shown (decimal (1 + length done)) (view item) ≡ shown name (view item) = ap (λ (n : List ℕ). shown n (view item)) (ap decimal place ∙ sym named) in
    adds ∙ ap (λ (l : List ℕ). l ++ shown name (view item)) so_far ∙ append_assoc before _ _
    ∙ ap (λ (l : List ℕ). before ++ l) (ap (λ (l : List ℕ). each_text shown 1 done ++ l) (sym last) ∙ sym (each_text-push shown 1 done (view item)) ∙ ap (each_text shown 1) (sym step))
