-- One more command or part of a list, which counts or not.
use Rattle.std.proofs.Common.{◌≡◌, ◌∙◌, ◌<◌, ◌+◌, ℕ, Bool, true, false, List, [], ◌∷◌, ◌++◌, Option, Some, None, option_map, length, take, cond, ap, sym, refl, slice_index_or, append-nil}
use Rattle.std.specs.List.{cons_option, filter, filter_map}
use Rattle.std.proofs.lemmas.List.{take_more}
use Rattle.std.proofs.lemmas.List.Elements.{filter_map-append, filter_more}
use Rattle.tool_words.specs.Sole.{and_if, map_sole, sole, sole_and}
use Rattle.tool_words.specs.declared.sole.Sole.{Sole}
use Rattle.tool_words.specs.declared.sole.Sole.TheVariants as there

sole-push : {O : Type 0} (xs : List O) (x : O) → sole_and (sole xs) x ≡ sole (xs ++ x ∷ [])
sole-push [] x = refl
sole-push (a ∷ []) x = refl
sole-push (a ∷ b ∷ more) x = refl

-- an option that was given
pub sole_more : {O : Type 0} (p : O → Bool) (xs : List O) (i : ℕ) (x : O) → i < length xs → x ≡ slice_index_or xs i x → p x ≡ true
    → sole_and (sole (filter p (take i xs))) x ≡ sole (filter p (take (i + 1) xs))
sole_more p xs i x lt at hit = sole-push _ x ∙ sym (ap sole (filter_more p xs i x lt ∙ here))
  where
    here : filter p (take i xs) ++ cond (p (slice_index_or xs i x)) (slice_index_or xs i x ∷ []) [] ≡ filter p (take i xs) ++ x ∷ []
    here = ap (λ y. filter p (take i xs) ++ cond (p y) (y ∷ []) []) (sym at) ∙ ap (λ b. filter p (take i xs) ++ cond b (x ∷ []) []) hit

-- one that was not
pub sole_same : {O : Type 0} (p : O → Bool) (xs : List O) (i : ℕ) (x : O) → i < length xs → x ≡ slice_index_or xs i x → p x ≡ false
    → sole (filter p (take i xs)) ≡ sole (filter p (take (i + 1) xs))
sole_same p xs i x lt at miss = sym (ap sole (filter_more p xs i x lt ∙ here))
  where
    here : filter p (take i xs) ++ cond (p (slice_index_or xs i x)) (slice_index_or xs i x ∷ []) [] ≡ filter p (take i xs)
    here = ap (λ y. filter p (take i xs) ++ cond (p y) (y ∷ []) []) (sym at) ∙ ap (λ b. filter p (take i xs) ++ cond b (x ∷ []) []) miss
        ∙ append-nil (filter p (take i xs))

map_sole-and : {A B : Type 0} (view : A → B) (so_far : Sole A) (one : A) → map_sole view (sole_and so_far one) ≡ sole_and (map_sole view so_far) (view one)
map_sole-and view there.Nothing one = refl
map_sole-and view (there.One other) one = refl
map_sole-and view there.Many one = refl

-- a part with a value, or with none
module _ {X Y V : Type 0} (value_in : X → Option Y) (view : V → Y) (so_far : Sole V) (xs : List X) (i : ℕ) (d : X) (lt : i < length xs) (is : map_sole view so_far ≡ sole (filter_map value_in (take i xs))) where
  one_more : (found : Option Y) → found ≡ value_in (slice_index_or xs i d) → filter_map value_in (take (i + 1) xs) ≡ filter_map value_in (take i xs) ++ cons_option found []
  one_more found gives =
      ap (filter_map value_in) (take_more xs i d lt) ∙ filter_map-append value_in (take i xs) _
      ∙ ap (λ o. filter_map value_in (take i xs) ++ cons_option o []) (sym gives)

  pub value_more : (found : Option V) → option_map view found ≡ value_in (slice_index_or xs i d) → map_sole view (and_if so_far found) ≡ sole (filter_map value_in (take (i + 1) xs))
  value_more (Some value) gives = map_sole-and view so_far value ∙ ap (λ s. sole_and s (view value)) is ∙ sole-push _ _ ∙ ap sole (sym (one_more (Some (view value)) gives))
  value_more None gives = is ∙ ap sole (sym (one_more None gives ∙ append-nil _))
