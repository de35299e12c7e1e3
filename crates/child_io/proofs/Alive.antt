-- How what is alive changes from call to call.
use Rattle.std.proofs.Common.{◌≡◌, ℕ, Bool, true, false, not, ◌||◌, ◌==◌, cond, List, [], ◌∷◌, ◌++◌, ℤ, refl, ap, sym, ◌∙◌, append_assoc}
use Rattle.std.proofs.Math.Bool.{or-false}
use Rattle.std.proofs.lemmas.List.{append-nil}
use Rattle.std.proofs.lemmas.List.Elements.{filter-append, filter_agree}
use Rattle.std.proofs.lemmas.List.Folds.{list_any-append}
use Rattle.std.specs.List.{filter, list_any}
use Rattle.child_io.specs.Calls.{Call, Started, StartFailed, Ended, EndFailed}
use Rattle.child_io.specs.Alive.{sees_end_of, left_after, named_by, alive, StandsFor}
use Rattle.child_io.specs.Kids.{without}

-- ---- neither test passes ----

pub left_false : (a b : Bool) → (a || b) ≡ false → a ≡ false
left_false true b neither = neither
left_false false b neither = refl

pub right_false : (a b : Bool) → (a || b) ≡ false → b ≡ false
right_false true b neither = absurd (cc)
right_false false b neither = neither

-- ---- some calls after others ----

pub left_after-append : (xs ys : List Call) (children : List ℕ) → left_after (xs ++ ys) children ≡ left_after ys (left_after xs children)
left_after-append xs ys [] = refl
left_after-append xs ys (child ∷ children) =
    let rest = left_after-append xs ys children in
    let later = list_any (sees_end_of child) ys in
    let Same : Bool → Type 0 = λ seen.
    cond (not (seen || later)) (child ∷ left_after (xs ++ ys) children) (left_after (xs ++ ys) children)
    ≡ left_after ys (cond (not seen) (child ∷ left_after xs children) (left_after xs children)) in
    let step : (seen : Bool) → Same seen = λ seen. elim seen as Same [ true ↦ rest | false ↦ ap (λ l. cond (not later) (child ∷ l) l) rest ] in
    ap (λ seen. cond (not seen) (child ∷ left_after (xs ++ ys) children) (left_after (xs ++ ys) children)) (list_any-append (sees_end_of child) xs ys)
    ∙ step (list_any (sees_end_of child) xs)

pub alive-append : (xs ys : List Call) → alive (xs ++ ys) ≡ left_after ys (alive xs) ++ alive ys
alive-append [] ys = refl
alive-append (call ∷ xs) ys =
    let first = left_after xs (named_by call) in
    ap (λ l. l ++ alive (xs ++ ys)) (left_after-append xs ys (named_by call))
    ∙ ap (λ l. left_after ys first ++ l) (alive-append xs ys)
    ∙ sym (append_assoc (left_after ys first) (left_after ys (alive xs)) (alive ys))
    ∙ ap (λ l. l ++ alive ys) (sym (filter-append (λ child. not (list_any (sees_end_of child) ys)) first (alive xs)))

-- ---- one call more ----

all_stay : (children : List ℕ) → filter (λ child. true) children ≡ children
all_stay [] = refl
all_stay (child ∷ children) = ap (λ l. child ∷ l) (all_stay children)

-- the others stay
others_stay : (child : ℕ) (children : List ℕ) → filter (λ other. not ((child == other) || false)) children ≡ without child children
others_stay child children = filter_agree (λ other. not ((child == other) || false)) (λ other. not (child == other)) (λ other. ap not (or-false (child == other))) children

module _ (calls : List Call) where
  alive-started : (words : List (List ℕ)) (child : ℕ) → alive (calls ++ Started words child ∷ []) ≡ alive calls ++ child ∷ []
  alive-started words child = alive-append calls (Started words child ∷ []) ∙ ap (λ l. l ++ child ∷ []) (all_stay (alive calls))

  alive-start_failed : (words : List (List ℕ)) → alive (calls ++ StartFailed words ∷ []) ≡ alive calls
  alive-start_failed words = alive-append calls (StartFailed words ∷ []) ∙ append-nil _ ∙ all_stay (alive calls)

  alive-ended : (child : ℕ) (status : ℤ) → alive (calls ++ Ended child status ∷ []) ≡ without child (alive calls)
  alive-ended child status = alive-append calls (Ended child status ∷ []) ∙ append-nil _ ∙ others_stay child (alive calls)

  alive-end_failed : (child : ℕ) → alive (calls ++ EndFailed child ∷ []) ≡ alive calls
  alive-end_failed child = alive-append calls (EndFailed child ∷ []) ∙ append-nil _ ∙ all_stay (alive calls)

  -- ---- children that stand for the calls ----

  module _ {old new : List ℕ} (stands : StandsFor calls old) where
    pub stands-started : (words : List (List ℕ)) (child : ℕ) → new ≡ old ++ child ∷ [] → StandsFor (calls ++ Started words child ∷ []) new
    stands-started words child is = is ∙ ap (λ l. l ++ child ∷ []) stands ∙ sym (alive-started words child)

    pub stands-start_failed : (words : List (List ℕ)) → new ≡ old → StandsFor (calls ++ StartFailed words ∷ []) new
    stands-start_failed words is = is ∙ stands ∙ sym (alive-start_failed words)

    pub stands-ended : (child : ℕ) (status : ℤ) → new ≡ without child old → StandsFor (calls ++ Ended child status ∷ []) new
    stands-ended child status is = is ∙ ap (without child) stands ∙ sym (alive-ended child status)

    pub stands-end_failed : (child : ℕ) → new ≡ old → StandsFor (calls ++ EndFailed child ∷ []) new
    stands-end_failed child is = is ∙ stands ∙ sym (alive-end_failed child)
