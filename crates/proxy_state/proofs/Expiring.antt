-- What the clock and a loss make of the requests that wait.
use Rattle.std.proofs.Common.{◌≡◌, ℕ, zero, ◌≤◌, nat_le, Bool, true, false, cond, ◌&&◌, ◌==◌, List, [], ◌∷◌, ◌++◌, length, map, filter, find, refl, ap, sym, ◌∙◌, subst, arith, Contains, Some, None, if◌then◌else◌}
use Rattle.std.proofs.lemmas.Bool.{eqb-true}
use Rattle.proxy_history.specs.Facts.{Fact, Request}
use Rattle.proxy_history.specs.Requests.{pending, is_pending, has_request, of_space}
use Rattle.proxy_history.specs.Noting.{each_pending, if_pending}
use Rattle.proxy_history.specs.Unanswered.{due}
use Rattle.proxy_history.proofs.Lists.{Contains-cons}
use Rattle.number_space.specs.Table.{is_due}
use Rattle.number_space.specs.declared.space.Row as space_rows
use Rattle.proxy_state.specs.Requests.{RequestInUse}
use Rattle.proxy_state.specs.Requests as requests
use Rattle.proxy_state.proofs.InUse.{request_in, waits_in, waiting}
use Rattle.proxy_state.proofs.Filters.{AreDistinct, filter_both, has_filtered, left_of}

-- ---- the requests of a space whose time has come ----

abbrev pub due_in : ℕ → ℕ → List Request → List Request
due_in space time requests = of_space space (due time requests)

module _ {N : Type 0} (note : List ℕ → N) where
  abbrev Row : Type 0
  Row = space_rows.Row N

  abbrev row_of : RequestInUse → Row
  row_of a = requests.row_of note a

  abbrev rows_of : ℕ → List RequestInUse → List Row
  rows_of space list = requests.rows_of note space list

  pub record FirstDue (space time : ℕ) (list : List RequestInUse) (a : RequestInUse) : Type 0 where
    pub at : Contains list a
    pub waits : a.waits ≡ true
    pub placed : a.request.space ≡ space
    pub row : find (is_due time) (rows_of space list) ≡ Some (row_of a)
    pub rest : List Request
    pub due : due_in space time (waiting list) ≡ a.request ∷ rest

  pub record NoneDue (space time : ℕ) (list : List RequestInUse) : Type 0 where
    pub row : find (is_due time) (rows_of space list) ≡ None
    pub due : due_in space time (waiting list) ≡ []

  pub data Due (space time : ℕ) (list : List RequestInUse) : Type 0 where
    IsFirst : (a : RequestInUse) → FirstDue space time list a → Due space time list
    IsNone : NoneDue space time list → Due space time list

  module _ (space time : ℕ) where
    abbrev is_it : Request → Bool
    is_it r = r.space == space

    abbrev comes : Request → Bool
    comes r = nat_le r.deadline time

    -- an ask in front that isn't due
    skips : (b : RequestInUse) (list : List RequestInUse) → (w d i : Bool) → b.waits ≡ w → nat_le b.request.deadline time ≡ d → (b.request.space == space) ≡ i → (w && d && i) ≡ false
        → (find (is_due time) (rows_of space (b ∷ list)) ≡ find (is_due time) (rows_of space list)) × (due_in space time (waiting (b ∷ list)) ≡ due_in space time (waiting list))
    skips b list w d i ew ed ei out = (rows_skip w d i ew ed ei out, due_skip w d i ew ed ei out)
      where
        rows_skip : (w d i : Bool) → b.waits ≡ w → nat_le b.request.deadline time ≡ d → (b.request.space == space) ≡ i → (w && d && i) ≡ false → find (is_due time) (rows_of space (b ∷ list)) ≡ find (is_due time) (rows_of space list)
        rows_skip w d true ew ed ei out =
            let isnt : (b.waits && nat_le b.request.deadline time) ≡ false = ap (λ (t : Bool). t && nat_le b.request.deadline time) ew ∙ ap (λ (t : Bool). w && t) ed ∙ and_true (w && d) out in
            ap (λ (t : Bool). find (is_due time) (map row_of (cond t (b ∷ filter (λ (a : RequestInUse). a.request.space == space) list) (filter (λ (a : RequestInUse). a.request.space == space) list)))) ei
            ∙ ap (λ (t : Bool). cond t (Some (row_of b)) (find (is_due time) (rows_of space list))) isnt
          where
            and_true : (t : Bool) → (t && true) ≡ false → t ≡ false
            and_true true e = e
            and_true false e = refl
        rows_skip w d false ew ed ei out = ap (λ (t : Bool). find (is_due time) (map row_of (cond t (b ∷ filter (λ (a : RequestInUse). a.request.space == space) list) (filter (λ (a : RequestInUse). a.request.space == space) list)))) ei

        due_skip : (w d i : Bool) → b.waits ≡ w → nat_le b.request.deadline time ≡ d → (b.request.space == space) ≡ i → (w && d && i) ≡ false → due_in space time (waiting (b ∷ list)) ≡ due_in space time (waiting list)
        due_skip false d i ew ed ei out = ap (λ (t : Bool). due_in space time (map request_in (cond t (b ∷ filter waits_in list) (filter waits_in list)))) ew
        due_skip true false i ew ed ei out =
            ap (λ (t : Bool). due_in space time (map request_in (cond t (b ∷ filter waits_in list) (filter waits_in list)))) ew
            ∙ ap (λ (t : Bool). filter is_it (cond t (b.request ∷ filter comes (waiting list)) (filter comes (waiting list)))) ed
        due_skip true true i ew ed ei out =
            ap (λ (t : Bool). due_in space time (map request_in (cond t (b ∷ filter waits_in list) (filter waits_in list)))) ew
            ∙ ap (λ (t : Bool). filter is_it (cond t (b.request ∷ filter comes (waiting list)) (filter comes (waiting list)))) ed
            ∙ ap (λ (t : Bool). cond t (b.request ∷ filter is_it (filter comes (waiting list))) (filter is_it (filter comes (waiting list)))) (ei ∙ out)

    pub due_of : (list : List RequestInUse) → Due space time list
    due_of [] = IsNone (record { row = refl; due = refl })
    due_of (b ∷ list) =
        let step : (w d i : Bool) → b.waits ≡ w → nat_le b.request.deadline time ≡ d → (b.request.space == space) ≡ i → Due space time (b ∷ list) =
        λ w d i ew ed ei.
        let test : (t : Bool) → (w && d && i) ≡ t → Due space time (b ∷ list) =
        λ t. elim t as (λ t. (w && d && i) ≡ t → Due space time (b ∷ list)) [
          | true ↦ λ all.
              let parts = three w d i all in
              let waits : b.waits ≡ true = ew ∙ parts.0 in
              let comes_now : nat_le b.request.deadline time ≡ true = ed ∙ parts.1 in
              let in_it : (b.request.space == space) ≡ true = ei ∙ parts.2 in
              IsFirst b (record {
                at = (zero, omega arith, refl);
                waits = waits;
                placed = eqb-true b.request.space space in_it;
                row =
                    ap (λ (t : Bool). find (is_due time) (map row_of (cond t (b ∷ filter (λ (a : RequestInUse). a.request.space == space) list) (filter (λ (a : RequestInUse). a.request.space == space) list)))) in_it
                    ∙ ap (λ (t : Bool). cond (t && nat_le b.request.deadline time) (Some (row_of b)) (find (is_due time) (rows_of space list))) waits
                    ∙ ap (λ (t : Bool). cond t (Some (row_of b)) (find (is_due time) (rows_of space list))) comes_now;
                rest = due_in space time (waiting list);
                due =
                    ap (λ (t : Bool). due_in space time (map request_in (cond t (b ∷ filter waits_in list) (filter waits_in list)))) waits
                    ∙ ap (λ (t : Bool). filter is_it (cond t (b.request ∷ filter comes (waiting list)) (filter comes (waiting list)))) comes_now
                    ∙ ap (λ (t : Bool). cond t (b.request ∷ filter is_it (filter comes (waiting list))) (filter is_it (filter comes (waiting list)))) in_it;
              })
          | false ↦ λ out. behind (skips b list w d i ew ed ei out) (due_of list)
        ]
        in test (w && d && i) refl
        in step b.waits (nat_le b.request.deadline time) (b.request.space == space) refl refl refl
      where
        three : (a b c : Bool) → (a && b && c) ≡ true → (a ≡ true) × (b ≡ true) × (c ≡ true)
        three true true true e = (refl, refl, refl)
        three true true false e = absurd (cc)
        three true false c e = absurd (cc)
        three false b c e = absurd (cc)

        behind : (find (is_due time) (rows_of space (b ∷ list)) ≡ find (is_due time) (rows_of space list)) × (due_in space time (waiting (b ∷ list)) ≡ due_in space time (waiting list)) → Due space time list → Due space time (b ∷ list)
        behind same (IsFirst a F) = IsFirst a (record { at = Contains-cons a b list F.at; waits = F.waits; placed = F.placed; row = same.0 ∙ F.row; rest = F.rest; due = same.1 ∙ F.due })
        behind same (IsNone none) = IsNone (record { row = same.0 ∙ none.row; due = same.1 ∙ none.due })

    -- no more are due than there are rows
    pub few_due : (list : List RequestInUse) → length (due_in space time (waiting list)) ≤ length (rows_of space list)
    few_due [] = omega arith
    few_due (b ∷ list) =
        let rest = few_due list in
        let Few : Bool → Bool → Bool → Type 0 = λ (w : Bool) (d : Bool) (i : Bool).
        length (filter is_it (filter comes (map request_in (cond w (b ∷ filter waits_in list) (filter waits_in list))))) ≤ length (map row_of (cond i (b ∷ filter (λ (a : RequestInUse). a.request.space == space) list) (filter (λ (a : RequestInUse). a.request.space == space) list))) in
        let shorter : (i : Bool) → length (due_in space time (waiting list)) ≤ length (map row_of (cond i (b ∷ filter (λ (a : RequestInUse). a.request.space == space) list) (filter (λ (a : RequestInUse). a.request.space == space) list))) =
        λ i. elim i as (λ i. length (due_in space time (waiting list)) ≤ length (map row_of (cond i (b ∷ filter (λ (a : RequestInUse). a.request.space == space) list) (filter (λ (a : RequestInUse). a.request.space == space) list)))) [ true ↦ omega arith | false ↦ rest ]
        in
        let step : (w d i : Bool) → nat_le b.request.deadline time ≡ d → (b.request.space == space) ≡ i → Few w d i =
        λ w d i ed ei. elim w as (λ w. Few w d i) [
          | true ↦
              subst (λ (t : Bool). length (filter is_it (cond t (b.request ∷ filter comes (waiting list)) (filter comes (waiting list)))) ≤ length (map row_of (cond i (b ∷ filter (λ (a : RequestInUse). a.request.space == space) list) (filter (λ (a : RequestInUse). a.request.space == space) list)))) (sym ed)
              (elim d as (λ d. length (filter is_it (cond d (b.request ∷ filter comes (waiting list)) (filter comes (waiting list)))) ≤ length (map row_of (cond i (b ∷ filter (λ (a : RequestInUse). a.request.space == space) list) (filter (λ (a : RequestInUse). a.request.space == space) list)))) [
                | true ↦
                    subst (λ (t : Bool). length (cond t (b.request ∷ due_in space time (waiting list)) (due_in space time (waiting list))) ≤ length (map row_of (cond i (b ∷ filter (λ (a : RequestInUse). a.request.space == space) list) (filter (λ (a : RequestInUse). a.request.space == space) list)))) (sym ei)
                    (elim i as (λ i. length (cond i (b.request ∷ due_in space time (waiting list)) (due_in space time (waiting list))) ≤ length (map row_of (cond i (b ∷ filter (λ (a : RequestInUse). a.request.space == space) list) (filter (λ (a : RequestInUse). a.request.space == space) list)))) [ true ↦ omega arith | false ↦ rest ])
                | false ↦ shorter i
              ])
          | false ↦ shorter i
        ]
        in step b.waits (nat_le b.request.deadline time) (b.request.space == space) refl refl

-- ---- what is done to those that wait leaves fewer ----

-- of those that waited some still wait
pub record Shrinks (earlier later : List Fact) : Type 0 where
  pub passes : Request → Bool
  pub left : pending later ≡ filter passes (pending earlier)

pub shrinks_more : (earlier middle later : List Fact) → Shrinks earlier middle → Shrinks middle later → Shrinks earlier later
shrinks_more earlier middle later first second = record {
  passes = λ r. first.passes r && second.passes r;
  left = second.left ∙ ap (filter second.passes) first.left ∙ filter_both second.passes first.passes (pending earlier);
}

filter_every : (requests : List Request) → requests ≡ filter (λ r. true) requests
filter_every [] = refl
filter_every (r ∷ requests) = ap (λ (l : List Request). r ∷ l) (filter_every requests)

pub shrinks_not : (past : List Fact) → Shrinks past past
shrinks_not past = record { passes = λ r. true; left = filter_every (pending past) }

-- what of a selection is due later is what of it still waits
pub due_later : (space time : ℕ) (earlier later : List Fact) → AreDistinct (pending earlier) → Shrinks earlier later → due_in space time (pending later) ≡ filter (λ q. is_pending q later) (due_in space time (pending earlier))
due_later space time earlier later distinct S =
    ap (due_in space time) S.left
    ∙ left_of S.passes (λ r. r.space == space) (λ r. nat_le r.deadline time) (pending earlier) distinct
    ∙ ap (λ (l : List Request). filter (λ (q : Request). has_request q l) (due_in space time (pending earlier))) (sym S.left)

-- ---- going through a list, and passing over those that wait no more ----

module _ (act : Request → List Fact → List Fact) (shrinks : (r : Request) (past : List Fact) → Shrinks past (act r past)) where
  pub each_shrinks : (requests : List Request) (past : List Fact) → Shrinks past (each_pending act requests past)
  unfolding each_pending
  each_shrinks [] past = shrinks_not past
  each_shrinks (r ∷ requests) past =
      shrinks_more past (if_pending act r past) _ (elim (is_pending r past) as (λ b. Shrinks past (if b then act r past else past)) [ true ↦ shrinks r past | false ↦ shrinks_not past ])
      (each_shrinks requests (if_pending act r past))

  waits_before : (q r : Request) (past : List Fact) → is_pending q (if_pending act r past) ≡ true → is_pending q past ≡ true
  waits_before q r past =
      elim (is_pending r past) as (λ b. is_pending q (if b then act r past else past) ≡ true → is_pending q past ≡ true) [
        | true ↦ λ h. let S = shrinks r past in has_filtered S.passes q (pending past) (sym (ap (has_request q) S.left) ∙ h)
        | false ↦ λ h. h
      ]

  each_kept : (keep : Request → Bool) (requests : List Request) (past : List Fact) → ((q : Request) → is_pending q past ≡ true → keep q ≡ true) → each_pending act requests past ≡ each_pending act (filter keep requests) past
  unfolding each_pending
  each_kept keep [] past h = refl
  each_kept keep (r ∷ requests) past h =
      let step : (b : Bool) → keep r ≡ b → each_pending act requests (if_pending act r past) ≡ each_pending act (cond b (r ∷ filter keep requests) (filter keep requests)) past =
      λ b. elim b as (λ b. keep r ≡ b → each_pending act requests (if_pending act r past) ≡ each_pending act (cond b (r ∷ filter keep requests) (filter keep requests)) past) [
        | true ↦ λ e. each_kept keep requests (if_pending act r past) (λ q waits. h q (waits_before q r past waits))
        | false ↦ λ e.
            let out : (b : Bool) → is_pending r past ≡ b → b ≡ false = λ b. elim b as (λ b. is_pending r past ≡ b → b ≡ false) [ true ↦ λ w. sym (h r w) ∙ e | false ↦ λ w. refl ] in
            ap (λ (b : Bool). each_pending act requests (if b then act r past else past)) (out (is_pending r past) refl) ∙ each_kept keep requests past h
      ]
      in step (keep r) refl

  pub each_waiting : (requests : List Request) (past : List Fact) → each_pending act requests past ≡ each_pending act (filter (λ q. is_pending q past) requests) past
  each_waiting requests past = each_kept (λ q. is_pending q past) requests past (λ q waits. waits)

  pub each_append : (first second : List Request) (past : List Fact) → each_pending act (first ++ second) past ≡ each_pending act second (each_pending act first past)
  unfolding each_pending
  each_append [] second past = refl
  each_append (r ∷ first) second past = each_append first second (if_pending act r past)

  pub each_none : (past : List Fact) → each_pending act [] past ≡ past
  unfolding each_pending
  each_none past = refl

  pub each_first : (r : Request) (requests : List Request) (past : List Fact) → is_pending r past ≡ true → each_pending act (r ∷ requests) past ≡ each_pending act requests (act r past)
  unfolding each_pending
  each_first r requests past waits = ap (λ (b : Bool). each_pending act requests (if b then act r past else past)) waits
