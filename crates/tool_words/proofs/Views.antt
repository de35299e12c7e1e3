-- Lists that are seen as others.
use Rattle.std.proofs.Common.{◌≡◌, ◌∙◌, ◌<◌, ◌≤◌, ℕ, Bool, true, false, List, [], ◌∷◌, Option, Some, None, is_some, map, option_map, length, take, take_all, ap, sym, refl, slice_index_or}
use Rattle.std.specs.List.{cons_option, filter_map, list_all, list_any}
use Rattle.std.proofs.lemmas.List.Folds.{list_all-map, list_all_at, list_any_at}
use Rattle.clap.proofs.WalkLemmas.{list_any-map}

module _ {X Y : Type 0} (test : Y → Bool) (view : X → Y) (xs : List X) (i : ℕ) where
  -- one of them passes
  pub any_of_views : (d : X) → i < length xs → test (view (slice_index_or xs i d)) ≡ true → true ≡ list_any test (map view xs)
  any_of_views d lt hit = sym (sym (list_any-map test view xs) ∙ list_any_at (λ x. test (view x)) xs i d lt hit)

  -- none of them does
  pub none_of_views : length xs ≤ i → list_any (λ x. test (view x)) (take i xs) ≡ false → false ≡ list_any test (map view xs)
  none_of_views all none = sym (sym (list_any-map test view xs) ∙ ap (list_any (λ x. test (view x))) (sym (take_all i xs all)) ∙ none)

  -- one of them doesn't
  pub not_all_of_views : (d : X) → i < length xs → test (view (slice_index_or xs i d)) ≡ false → false ≡ list_all test (map view xs)
  not_all_of_views d lt miss = sym (list_all-map test view xs ∙ list_all_at (λ x. test (view x)) xs i d lt miss)

  -- all of them do
  pub all_of_views : length xs ≤ i → list_all (λ x. test (view x)) (take i xs) ≡ true → true ≡ list_all test (map view xs)
  all_of_views all pass = sym (list_all-map test view xs ∙ ap (list_all (λ x. test (view x))) (sym (take_all i xs all)) ∙ pass)

pub is_some-view : {X Y : Type 0} (view : X → Y) (one : Option X) → is_some (option_map view one) ≡ is_some one
is_some-view view (Some x) = refl
is_some-view view None = refl

pub filter_map-map : {X Y Z : Type 0} (h : Y → Option Z) (view : X → Y) (xs : List X) → filter_map (λ x. h (view x)) xs ≡ filter_map h (map view xs)
filter_map-map h view [] = refl
filter_map-map h view (x ∷ xs) = ap (cons_option (h (view x))) (filter_map-map h view xs)
