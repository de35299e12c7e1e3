-- What a fragment comes to, case by case.
use Rattle.std.proofs.Common.{◌≡◌, ℕ, ◌+◌, ◌<◌, ◌≤◌, ◌==◌, true, false, List, [], ◌∷◌, ◌++◌, length, refl, sym, ◌∙◌, ap, arith, length-append}
use Rattle.std.specs.Prelude.{nat_lt}
use Rattle.std.proofs.lemmas.List.{flat_map_more, length_push}
use Rattle.std.proofs.lemmas.Bool.{lt-ltb, le-ltb, eq-eqb, ne_eqb}
use Rattle.mbim_frame.specs.Fragment.{total_of, body_of}
use Rattle.mbim_fragments.specs.Runs.{More, Whole, TooLong, joined, is_due, joining, joining_due}

pub joined-push : (run : List (List ℕ)) (fragment : List ℕ) → joined (run ++ fragment ∷ []) ≡ joined run ++ body_of fragment
joined-push run fragment = sym (flat_map_more body_of [] run fragment)

length-joined : (run : List (List ℕ)) (fragment : List ℕ) → length (joined (run ++ fragment ∷ [])) ≡ length (joined run) + length (body_of fragment)
length-joined run fragment = ap length (joined-push run fragment) ∙ length-append (joined run) (body_of fragment)

module _ (longest : ℕ) (run : List (List ℕ)) (fragment : List ℕ) where
  joining-due : is_due run fragment ≡ true → joining longest run fragment ≡ joining_due longest (run ++ fragment ∷ []) (total_of fragment)
  joining-due due = rw due refl

  pub joining-too_long : is_due run fragment ≡ true → longest < length (joined run) + length (body_of fragment) → joining longest run fragment ≡ TooLong
  joining-too_long due long =
      let past : nat_lt longest (length (joined run) + length (body_of fragment)) ≡ true = lt-ltb longest (length (joined run) + length (body_of fragment)) long in
      joining-due due ∙ rw (length-joined run fragment, past) refl

  module _ (due : is_due run fragment ≡ true) (short : length (joined run) + length (body_of fragment) ≤ longest) where
    within : nat_lt longest (length (joined (run ++ fragment ∷ []))) ≡ false
    within = rw (length-joined run fragment) (le-ltb longest (length (joined run) + length (body_of fragment)) short)

    pub joining-whole : length run + 1 ≡ total_of fragment → joining longest run fragment ≡ Whole (joined run ++ body_of fragment)
    joining-whole last =
        let complete : (length (run ++ fragment ∷ []) == total_of fragment) ≡ true = eq-eqb (length (run ++ fragment ∷ [])) (total_of fragment) (length_push run fragment ∙ last) in
        joining-due due ∙ rw (within, complete) (ap Whole (joined-push run fragment))

    pub joining-more : length run + 1 < total_of fragment → joining longest run fragment ≡ More
    joining-more more =
        let open_still : (length (run ++ fragment ∷ []) == total_of fragment) ≡ false = ne_eqb (length (run ++ fragment ∷ [])) (total_of fragment) (λ is. omega (arith, length_push run fragment, is, more)) in
        joining-due due ∙ rw (within, open_still) refl
