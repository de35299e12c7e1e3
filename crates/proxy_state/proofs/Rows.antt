-- What each fact makes of the rows of a number space.
use Rattle.std.proofs.Common.{◌≡◌, ℕ, Bool, true, false, not, cond, ◌==◌, List, [], ◌∷◌, ◌++◌, map, filter, refl, ap, sym, ◌∙◌, arith, if◌then◌else◌, append-nil}
use Rattle.std.specs.List.{AllByRecursion}
use Rattle.std.proofs.lemmas.Bool.Decides.{nat_tests}
use Rattle.std.proofs.lemmas.Bool.{eq-eqb}
use Rattle.std.proofs.lemmas.List.{map-append}
use Rattle.std.proofs.lemmas.List.Elements.{filter-append}
use Rattle.proxy_history.specs.Facts.{Request}
use Rattle.number_space.specs.Table.{settled_where}
use Rattle.number_space.specs.declared.space.Row as space_rows
use Rattle.proxy_state.specs.Requests.{RequestInUse, silenced_if}
use Rattle.proxy_state.specs.Requests as requests

-- two requests in use are told apart by their serial numbers, and in one space by their transaction numbers
pub record AreApart (r q : Request) : Type 0 where
  pub serial : (r.serial == q.serial) ≡ true → q ≡ r
  pub number : (r.space == q.space) ≡ true → (r.number == q.number) ≡ true → q ≡ r

-- a test that two others decide
pub both_ways : (a b : Bool) → (a ≡ true → b ≡ true) → (b ≡ true → a ≡ true) → a ≡ b
both_ways true b there back = sym (there refl)
both_ways false true there back = back refl
both_ways false false there back = refl

module _ {N : Type 0} (note : List ℕ → N) where
  abbrev Row : Type 0
  Row = space_rows.Row N

  abbrev row_of : RequestInUse → Row
  row_of a = requests.row_of note a

  abbrev rows_of : ℕ → List RequestInUse → List Row
  rows_of space list = requests.rows_of note space list

  module _ (space : ℕ) where
    -- a request more
    pub rows_more : (list : List RequestInUse) (a : RequestInUse) (in_it : Bool) → (a.request.space == space) ≡ in_it → rows_of space (list ++ a ∷ []) ≡ (if in_it then rows_of space list ++ row_of a ∷ [] else rows_of space list)
    rows_more list a in_it is =
        ap (map row_of) (filter-append (λ (a : RequestInUse). a.request.space == space) list (a ∷ []))
        ∙ map-append row_of (filter (λ (a : RequestInUse). a.request.space == space) list) (filter (λ (a : RequestInUse). a.request.space == space) (a ∷ []))
        ∙ by_test in_it is
      where
        by_test : (in_it : Bool) → (a.request.space == space) ≡ in_it → rows_of space list ++ map row_of (cond (a.request.space == space) (a ∷ []) []) ≡ (if in_it then rows_of space list ++ row_of a ∷ [] else rows_of space list)
        by_test true is = ap (λ (b : Bool). rows_of space list ++ map row_of (cond b (a ∷ []) [])) is
        by_test false is = ap (λ (b : Bool). rows_of space list ++ map row_of (cond b (a ∷ []) [])) is ∙ append-nil (rows_of space list)

    module _ (r : Request) where
      abbrev serial_same : RequestInUse → Bool
      serial_same a = r.serial == a.request.serial

      same_at : (a : RequestInUse) → AreApart r a.request → (a.request.space == space) ≡ true → (r.space == space) ≡ true → (r.serial == a.request.serial) ≡ (r.number == a.request.number)
      same_at a apart in_it is =
          let spaces : (r.space == a.request.space) ≡ true = grind (arith, nat_tests, in_it, is) in
          both_ways _ _
          (λ e. let same : a.request ≡ r = apart.serial e in eq-eqb r.number a.request.number (ap (λ (q : Request). q.number) (sym same)))
          (λ e. let same : a.request ≡ r = apart.number spaces e in eq-eqb r.serial a.request.serial (ap (λ (q : Request). q.serial) (sym same)))

      -- where the request is in the space, its number is free again
      pub rows_freed : (list : List RequestInUse) → (r.space == space) ≡ true → AllByRecursion (λ a. AreApart r a.request) list
          → rows_of space (filter (λ a. not (r.serial == a.request.serial)) list) ≡ filter (λ row. not (r.number == row.number)) (rows_of space list)
      rows_freed [] is all = refl
      rows_freed (a ∷ list) is all =
          let rest = rows_freed list is all.1 in
          let Freed : Bool → Bool → Bool → Type 0 = λ (in_it : Bool) (serial : Bool) (number : Bool).
          map row_of (filter (λ (a : RequestInUse). a.request.space == space) (cond (not serial) (a ∷ filter (λ (a : RequestInUse). not (r.serial == a.request.serial)) list) (filter (λ (a : RequestInUse). not (r.serial == a.request.serial)) list)))
          ≡ filter (λ (row : Row). not (r.number == row.number)) (map row_of (cond in_it (a ∷ filter (λ (a : RequestInUse). a.request.space == space) list) (filter (λ (a : RequestInUse). a.request.space == space) list))) in
          let step : (in_it serial : Bool) → (a.request.space == space) ≡ in_it → (r.serial == a.request.serial) ≡ serial → Freed in_it serial (r.number == a.request.number) =
          λ in_it. elim in_it as (λ in_it. (serial : Bool) → (a.request.space == space) ≡ in_it → (r.serial == a.request.serial) ≡ serial → Freed in_it serial (r.number == a.request.number)) [
            | true ↦ λ serial. elim serial as (λ serial. (a.request.space == space) ≡ true → (r.serial == a.request.serial) ≡ serial → Freed true serial (r.number == a.request.number)) [
              | true ↦ λ i e. let number : (r.number == a.request.number) ≡ true = sym (same_at a all.0 i is) ∙ e in
                  rest ∙ ap (λ (b : Bool). cond (not b) (row_of a ∷ filter (λ (row : Row). not (r.number == row.number)) (rows_of space list)) (filter (λ (row : Row). not (r.number == row.number)) (rows_of space list))) (sym number)
              | false ↦ λ i e. let number : (r.number == a.request.number) ≡ false = sym (same_at a all.0 i is) ∙ e in
                  ap (λ (b : Bool). map row_of (cond b (a ∷ filter (λ (a : RequestInUse). a.request.space == space) (filter (λ (a : RequestInUse). not (r.serial == a.request.serial)) list)) (filter (λ (a : RequestInUse). a.request.space == space) (filter (λ (a : RequestInUse). not (r.serial == a.request.serial)) list)))) i
                  ∙ ap (λ (l : List Row). row_of a ∷ l) rest
                  ∙ ap (λ (b : Bool). cond (not b) (row_of a ∷ filter (λ (row : Row). not (r.number == row.number)) (rows_of space list)) (filter (λ (row : Row). not (r.number == row.number)) (rows_of space list))) (sym number)
            ]
            | false ↦ λ serial. elim serial as (λ serial. (a.request.space == space) ≡ false → (r.serial == a.request.serial) ≡ serial → Freed false serial (r.number == a.request.number)) [
              | true ↦ λ i e. rest
              | false ↦ λ i e. ap (λ (b : Bool). map row_of (cond b (a ∷ filter (λ (a : RequestInUse). a.request.space == space) (filter (λ (a : RequestInUse). not (r.serial == a.request.serial)) list)) (filter (λ (a : RequestInUse). a.request.space == space) (filter (λ (a : RequestInUse). not (r.serial == a.request.serial)) list)))) i ∙ rest
            ]
          ]
          in
          step (a.request.space == space) (r.serial == a.request.serial) refl refl

      -- and else the rows stay
      pub rows_elsewhere : (list : List RequestInUse) → (r.space == space) ≡ false → AllByRecursion (λ a. AreApart r a.request) list → rows_of space (filter (λ a. not (r.serial == a.request.serial)) list) ≡ rows_of space list
      rows_elsewhere [] isnt all = refl
      rows_elsewhere (a ∷ list) isnt all =
          let rest = rows_elsewhere list isnt all.1 in
          let others : List RequestInUse = filter (λ (a : RequestInUse). not (r.serial == a.request.serial)) list in
          let Same : Bool → Bool → Type 0 = λ (in_it : Bool) (serial : Bool).
          map row_of (filter (λ (a : RequestInUse). a.request.space == space) (cond (not serial) (a ∷ others) others)) ≡ map row_of (cond in_it (a ∷ filter (λ (a : RequestInUse). a.request.space == space) list) (filter (λ (a : RequestInUse). a.request.space == space) list)) in
          let step : (serial : Bool) → (r.serial == a.request.serial) ≡ serial → Same (a.request.space == space) serial =
          λ serial. elim serial as (λ serial. (r.serial == a.request.serial) ≡ serial → Same (a.request.space == space) serial) [
            | true ↦ λ e. let same : a.request ≡ r = all.0.serial e in let out : (a.request.space == space) ≡ false = ap (λ (q : Request). q.space == space) same ∙ isnt in
                rest ∙ ap (λ (b : Bool). map row_of (cond b (a ∷ filter (λ (a : RequestInUse). a.request.space == space) list) (filter (λ (a : RequestInUse). a.request.space == space) list))) (sym out)
            | false ↦ λ e. elim (a.request.space == space) as (λ b. map row_of (cond b (a ∷ filter (λ (a : RequestInUse). a.request.space == space) others) (filter (λ (a : RequestInUse). a.request.space == space) others)) ≡ map row_of (cond b (a ∷ filter (λ (a : RequestInUse). a.request.space == space) list) (filter (λ (a : RequestInUse). a.request.space == space) list))) [
              | true ↦ ap (λ (l : List Row). row_of a ∷ l) rest
              | false ↦ rest
            ]
          ]
          in step (r.serial == a.request.serial) refl

      -- its sender waits no more
      pub rows_silenced : (list : List RequestInUse) → (r.space == space) ≡ true → AllByRecursion (λ a. AreApart r a.request) list
          → rows_of space (map (λ a. silenced_if (r.serial == a.request.serial) a) list) ≡ map (λ row. settled_where (λ (q : Row). r.number == q.number) row) (rows_of space list)
      rows_silenced [] is all = refl
      rows_silenced (a ∷ list) is all =
          let rest = rows_silenced list is all.1 in
          let others : List RequestInUse = map (λ (a : RequestInUse). silenced_if (r.serial == a.request.serial) a) list in
          let Silenced : Bool → Type 0 = λ (in_it : Bool).
          map row_of (cond in_it (silenced_if (r.serial == a.request.serial) a ∷ filter (λ (a : RequestInUse). a.request.space == space) others) (filter (λ (a : RequestInUse). a.request.space == space) others))
          ≡ map (λ (row : Row). settled_where (λ (q : Row). r.number == q.number) row) (map row_of (cond in_it (a ∷ filter (λ (a : RequestInUse). a.request.space == space) list) (filter (λ (a : RequestInUse). a.request.space == space) list))) in
          let step : (in_it : Bool) → (a.request.space == space) ≡ in_it → Silenced in_it =
          λ in_it. elim in_it as (λ in_it. (a.request.space == space) ≡ in_it → Silenced in_it) [
            | true ↦ λ i. ap (λ (b : Bool). settled_where (λ (q : Row). b) (row_of a) ∷ rows_of space others) (same_at a all.0 i is) ∙ ap (λ (l : List Row). settled_where (λ (q : Row). (r.number == a.request.number)) (row_of a) ∷ l) rest
            | false ↦ λ i. rest
          ]
          in step (a.request.space == space) refl

      pub rows_unsilenced : (list : List RequestInUse) → (r.space == space) ≡ false → AllByRecursion (λ a. AreApart r a.request) list → rows_of space (map (λ a. silenced_if (r.serial == a.request.serial) a) list) ≡ rows_of space list
      rows_unsilenced [] isnt all = refl
      rows_unsilenced (a ∷ list) isnt all =
          let rest = rows_unsilenced list isnt all.1 in
          let others : List RequestInUse = map (λ (a : RequestInUse). silenced_if (r.serial == a.request.serial) a) list in
          let Same : Bool → Type 0 = λ (in_it : Bool).
          map row_of (cond in_it (silenced_if (r.serial == a.request.serial) a ∷ filter (λ (a : RequestInUse). a.request.space == space) others) (filter (λ (a : RequestInUse). a.request.space == space) others))
          ≡ map row_of (cond in_it (a ∷ filter (λ (a : RequestInUse). a.request.space == space) list) (filter (λ (a : RequestInUse). a.request.space == space) list)) in
          let step : (in_it : Bool) → (a.request.space == space) ≡ in_it → Same in_it =
          λ in_it. elim in_it as (λ in_it. (a.request.space == space) ≡ in_it → Same in_it) [
            | true ↦ λ i.
                let differs : (r.serial == a.request.serial) ≡ false = both_ways (r.serial == a.request.serial) false (λ e. sym isnt ∙ ap (λ (q : Request). q.space == space) (sym (all.0.serial e)) ∙ i) (λ e. absurd (cc)) in
                ap (λ (b : Bool). row_of (silenced_if b a) ∷ rows_of space others) differs ∙ ap (λ (l : List Row). row_of a ∷ l) rest
            | false ↦ λ i. rest
          ]
          in step (a.request.space == space) refl

    -- a connection is gone
    pub rows_orphaned : (c : ℕ) (list : List RequestInUse) → rows_of space (map (λ a. silenced_if (c == a.request.conn) a) list) ≡ map (λ row. settled_where (λ (q : Row). c == q.conn) row) (rows_of space list)
    rows_orphaned c [] = refl
    rows_orphaned c (a ∷ list) =
        let others : List RequestInUse = map (λ (a : RequestInUse). silenced_if (c == a.request.conn) a) list in
        elim (a.request.space == space) as (λ b. map row_of (cond b (silenced_if (c == a.request.conn) a ∷ filter (λ (a : RequestInUse). a.request.space == space) others) (filter (λ (a : RequestInUse). a.request.space == space) others))
        ≡ map (λ (row : Row). settled_where (λ (q : Row). c == q.conn) row) (map row_of (cond b (a ∷ filter (λ (a : RequestInUse). a.request.space == space) list) (filter (λ (a : RequestInUse). a.request.space == space) list)))) [
          | true ↦ ap (λ (l : List Row). settled_where (λ (q : Row). (c == a.request.conn)) (row_of a) ∷ l) (rows_orphaned c list)
          | false ↦ rows_orphaned c list
        ]
