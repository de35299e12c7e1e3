-- One more text, which is a path or isn't.
use Rattle.std.proofs.Common.{◌≡◌, ◌∙◌, ◌<◌, ◌+◌, ℕ, List, [], ◌∷◌, ◌++◌, Option, Some, None, Err, length, map, option_map, take, drop, ap, sym, refl, slice_index_or, take-append-drop, arith}
use Rattle.std.specs.Prelude.{option_and_then}
use Rattle.std.proofs.lemmas.List.{drop_more, map-append, take_more}
use Rattle.tool_words.specs.Paths.{devices_in, if_devices, paths_in}
use Rattle.tool_words.specs.Values.{Gives, path_in}
use Rattle.tool_words.specs.declared.fault.WordFault.{WordFault}
use Rattle.tool_words.specs.declared.fault.WordFault.TheVariants as fault

paths-push : (texts paths : List (List ℕ)) (text path : List ℕ) → paths_in texts ≡ Some paths → path_in text ≡ Some path → paths_in (texts ++ text ∷ []) ≡ Some (paths ++ path ∷ [])
unfolding paths_in
paths-push [] paths text path are is =
    ap (option_and_then (λ (p : List ℕ). Some (p ∷ []))) is ∙ ap (option_map (λ (ps : List (List ℕ)). ps ++ path ∷ [])) are
paths-push (other ∷ texts) paths text path are is = go (path_in other) (paths_in texts) (paths_in (texts ++ text ∷ [])) are (λ ps are_paths. paths-push texts ps text path are_paths is)
  where
    go : (p : Option (List ℕ)) (ps qs : Option (List (List ℕ))) → option_and_then (λ q. option_and_then (λ rest. Some (q ∷ rest)) ps) p ≡ Some paths → ((rest : List (List ℕ)) → ps ≡ Some rest → qs ≡ Some (rest ++ path ∷ []))
        → option_and_then (λ q. option_and_then (λ rest. Some (q ∷ rest)) qs) p ≡ Some (paths ++ path ∷ [])
    go (Some p) (Some ps) qs found more = ap (option_and_then (λ (rest : List (List ℕ)). Some (p ∷ rest))) (more ps refl) ∙ ap (option_map (λ (rest : List (List ℕ)). rest ++ path ∷ [])) found
    go (Some p) None qs found more = grind (arith, found)
    go None ps qs found more = grind (arith, found)

paths-none : (texts : List (List ℕ)) (text : List ℕ) (others : List (List ℕ)) → path_in text ≡ None → paths_in (texts ++ text ∷ others) ≡ None
unfolding paths_in
paths-none [] text others is = ap (option_and_then (λ (p : List ℕ). option_and_then (λ (rest : List (List ℕ)). Some (p ∷ rest)) (paths_in others))) is
paths-none (other ∷ texts) text others is = go (path_in other) (paths_in (texts ++ text ∷ others)) (paths-none texts text others is)
  where
    go : (p : Option (List ℕ)) (ps : Option (List (List ℕ))) → ps ≡ None → option_and_then (λ q. option_and_then (λ rest. Some (q ∷ rest)) ps) p ≡ None
    go (Some p) ps none = ap (option_and_then (λ (rest : List (List ℕ)). Some (p ∷ rest))) none
    go None ps none = refl

module _ {X : Type 0} (view : X → List ℕ) (xs : List X) (i : ℕ) (d : X) where
  -- one that is
  pub one_more : (paths : List (List ℕ)) (path : List ℕ) → i < length xs → paths_in (map view (take i xs)) ≡ Some paths → path_in (view (slice_index_or xs i d)) ≡ Some path
      → paths_in (map view (take (i + 1) xs)) ≡ Some (paths ++ path ∷ [])
  one_more paths path lt are is =
      ap (λ ys. paths_in (map view ys)) (take_more xs i d lt) ∙ ap paths_in (map-append view (take i xs) _) ∙ paths-push (map view (take i xs)) paths _ path are is

  -- one that isn't
  pub not_one : i < length xs → path_in (view (slice_index_or xs i d)) ≡ None → paths_in (map view xs) ≡ None
  not_one lt is =
      ap (λ ys. paths_in (map view ys)) (sym (take-append-drop i xs) ∙ ap (λ ys. take i xs ++ ys) (drop_more xs i d lt))
      ∙ ap paths_in (map-append view (take i xs) _) ∙ paths-none (map view (take i xs)) _ (map view (drop (i + 1) xs)) is

  -- the reason why it isn't one is that why they aren't devices
  pub not_devices : (why : WordFault) → i < length xs → Gives (path_in (view (slice_index_or xs i d))) (Err why) → Gives (devices_in (map view xs)) (Err why)
  unfolding devices_in
  not_devices (fault.Usage kind) lt gives = (ap (option_and_then if_devices) (not_one lt gives.0), gives.1)
  not_devices fault.OutOfMemory lt gives = tt
