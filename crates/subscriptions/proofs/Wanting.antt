-- What lists and their merge want.
use Rattle.std.proofs.Common.{◌≡◌, ℕ, Bool, true, false, ◌&&◌, ◌||◌, bytes_eq, List, [], ◌∷◌, refl, ap, sym, ◌∙◌, Contains, None}
use Rattle.std.specs.List.{list_any, flat_map}
use Rattle.std.proofs.lemmas.Bool.{and_parts}
use Rattle.std.proofs.lemmas.List.Folds.{list_any-append}
use Rattle.kit_bytes.specs.Subscriptions.{Pair, has_all, normal_form, merge}
use Rattle.kit_bytes.specs.Indications.{is_cid, wants}
use Rattle.subscriptions.proofs.NormalForms.{any_from, any_has, same_answer, both_true, all_in, in_all, normal_from, normal_has}

module _ (uuid : List ℕ) (cid : ℕ) where
  abbrev asks : Pair → Bool
  asks pair = bytes_eq pair.0 uuid && is_cid cid pair.1

  all_asks : (p : Pair) → asks p ≡ true → asks (p.0, None) ≡ true
  all_asks p e = both_true (bytes_eq p.0 uuid) true (and_parts (bytes_eq p.0 uuid) (is_cid cid p.1) e).0 refl

  pub normal_wants : (ps : List Pair) → wants (normal_form ps) uuid cid ≡ wants ps uuid cid
  normal_wants ps = same_answer (wants (normal_form ps) uuid cid) (wants ps uuid cid) to from
    where
      to : wants (normal_form ps) uuid cid ≡ true → wants ps uuid cid ≡ true
      to e = let some = any_has asks (normal_form ps) e in any_from asks ps some.0 (normal_from ps some.0 some.1) some.2

      from : wants ps uuid cid ≡ true → wants (normal_form ps) uuid cid ≡ true
      from e = let some = any_has asks ps e in by some.0 some.1 some.2 (has_all ps some.0.0) refl
        where
          by : (p : Pair) → Contains ps p → asks p ≡ true → (b : Bool) → has_all ps p.0 ≡ b → wants (normal_form ps) uuid cid ≡ true
          by p at e true all = any_from asks (normal_form ps) (p.0, None) (normal_has ps (p.0, None) (all_in ps p.0 all) (λ single. absurd (cc))) (all_asks p e)
          by p at e false none = any_from asks (normal_form ps) p (normal_has ps p at (λ single all. let clash : true ≡ false = sym (in_all ps p.0 all) ∙ none in absurd (cc))) e

  union_wants : (lists : List (List Pair)) → wants (flat_map (λ list. list) lists) uuid cid ≡ list_any (λ list. wants list uuid cid) lists
  union_wants [] = refl
  union_wants (list ∷ lists) = list_any-append asks list (flat_map (λ list. list) lists) ∙ ap (λ (b : Bool). wants list uuid cid || b) (union_wants lists)

  pub merge_wants : (lists : List (List Pair)) → wants (merge lists) uuid cid ≡ list_any (λ list. wants list uuid cid) lists
  merge_wants lists = normal_wants (flat_map (λ list. list) lists) ∙ union_wants lists
