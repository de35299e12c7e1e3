-- What a history has that a client's part of it relies on: it is sound, the client joins once, and its requests have rising places.
use Rattle.std.proofs.Common.{◌≡◌, ℕ, ◌+◌, ◌<◌, ◌≤◌, Bool, true, false, ◌&&◌, ◌==◌, if◌then◌else◌, List, [], ◌∷◌, ◌++◌, refl, ap, sym, ◌∙◌, subst, ⊎_elim, arith, Contains}
use Rattle.std.specs.List.{AllByRecursion}
use Rattle.std.proofs.lemmas.Bool.{eqb-true, eq-eqb}
use Rattle.std.proofs.lemmas.List.Elements.{All-weaker, All-contains_itself, recursion_from_All}
use Rattle.proxy_history.specs.Limits.{Limits}
use Rattle.proxy_history.specs.Facts.{Fact, Request, Admitted, Judged, Forwarded}
use Rattle.proxy_history.specs.Connections.{message_count}
use Rattle.proxy_history.specs.Requests.{in_use, pending}
use Rattle.proxy_history.specs.Sound.{IsSound}
use Rattle.proxy_history.specs.View.{Blank}
use Rattle.proxy_history.proofs.Lists.{Contains-cons_cases, Contains-nil}
use Rattle.proxy_history.proofs.Sound.{same_serial, forwarded_from_in_use, in_use_from_pending}
use Rattle.proxy_solo.specs.Part.{as_sent, concerns, as_known, facts_if, part}
use Rattle.proxy_solo.proofs.Lists.{IsTold, IsOther}
use Rattle.proxy_solo.proofs.Reading.{Reads, AreGeneral, general_if}

-- it was forwarded, and is the client's
abbrev pub IsOf : ℕ → List Fact → Request → Type 0
IsOf c past q = Contains past (Forwarded q) × ((q.conn == c) ≡ true)

pub older : (c : ℕ) (fact : Fact) (past : List Fact) (q : Request) → (fact ≡ Forwarded q → ⊥) → IsOf c (fact ∷ past) q → IsOf c past q
older c fact past q differs at = (⊎_elim (λ (is : fact ≡ Forwarded q). absurd (differs is)) (λ (old : Contains past (Forwarded q)). old) (Contains-cons_cases (Forwarded q) fact past at.0), at.1)

-- its place is that of the client's newest message, and higher than those of the client's earlier requests
pub record IsNewest (c : ℕ) (r : Request) (past : List Fact) : Type 0 where
  pub place : r.place ≡ message_count c past
  pub rises : (q : Request) → IsOf c past q → q.place < r.place

pub forwarded_in_use : (past : List Fact) → AllByRecursion (λ q. Contains past (Forwarded q)) (in_use past)
forwarded_in_use past = recursion_from_All _ (in_use past) (All-weaker (Contains (in_use past)) (λ (q : Request). Contains past (Forwarded q)) (λ q at. forwarded_from_in_use past q at) (in_use past) (All-contains_itself (in_use past)))

pub forwarded_pending : (past : List Fact) → AllByRecursion (λ q. Contains past (Forwarded q)) (pending past)
forwarded_pending past = recursion_from_All _ (pending past) (All-weaker (Contains (pending past)) (λ (q : Request). Contains past (Forwarded q)) (λ q at. forwarded_from_in_use past q (in_use_from_pending past q at)) (pending past) (All-contains_itself (pending past)))

module _ (limits : Limits) (blank : Blank) (restated : Fact → List Fact) (R : Reads restated) (c : ℕ) where
  abbrev pub IsPlaced : Fact → List Fact → Type 0
  IsPlaced (Admitted d) past = (d == c) ≡ true → AreGeneral (part blank restated c past)
  IsPlaced (Forwarded r) past = (r.conn == c) ≡ true → IsNewest c r past
  IsPlaced _ past = Unit {0}

  abbrev pub ArePlaced : List Fact → Type 0
  ArePlaced [] = Unit {0}
  ArePlaced (fact ∷ past) = IsPlaced fact past × ArePlaced past

  pub record Placed (past : List Fact) : Type 0 where
    pub sound : IsSound limits past
    pub placed : ArePlaced past

  pub no_request : (past : List Fact) (q : Request) → AreGeneral (part blank restated c past) → IsOf c past q → ⊥
  unfolding part
  no_request [] q general at = absurd (Contains-nil (Forwarded q) at.0)
  no_request (fact ∷ past) q general at =
      ⊎_elim
      (λ (is : fact ≡ Forwarded q).
      let here : AreGeneral (facts_if (q.conn == c) (restated (Forwarded (as_sent q))) (part blank restated c past)) = subst (λ (f : Fact). AreGeneral (facts_if (concerns c f) (restated (as_known blank c f)) (part blank restated c past))) is general in
      let first : AreGeneral (restated (Forwarded (as_sent q)) ++ part blank restated c past) = subst (λ (b : Bool). AreGeneral (facts_if b (restated (Forwarded (as_sent q))) (part blank restated c past))) at.1 here in
      let stands : AreGeneral (Forwarded (as_sent q) ∷ part blank restated c past) = subst (λ (l : List Fact). AreGeneral (l ++ part blank restated c past)) (R.plain (Forwarded (as_sent q)) refl) first in
      let clash : false ≡ true = stands.0 in cc)
      (λ (old : Contains past (Forwarded q)). no_request past q (general_if (concerns c fact) (restated (as_known blank c fact)) (part blank restated c past) general) (old, at.1))
      (Contains-cons_cases (Forwarded q) fact past at.0)

  -- a request's place is within those of its sender's messages
  pub place_within : (past : List Fact) (q : Request) → ArePlaced past → IsOf c past q → q.place ≤ message_count c past
  unfolding message_count
  place_within [] q placed at = absurd (Contains-nil (Forwarded q) at.0)
  place_within (Admitted d ∷ past) q placed at =
      let old = older c (Admitted d) past q (λ e. cc) at in
      let step : (b : Bool) → (d == c) ≡ b → q.place ≤ (if b then 0 else message_count c past) =
      λ b. elim b as (λ b. (d == c) ≡ b → q.place ≤ (if b then 0 else message_count c past)) [
        | true ↦ λ e. absurd (no_request past q (placed.0 e) old)
        | false ↦ λ e. place_within past q placed.1 old
      ]
      in step (d == c) refl
  place_within (Judged d place m verdict ∷ past) q placed at =
      let rest = place_within past q placed.1 (older c (Judged d place m verdict) past q (λ e. cc) at) in
      elim (d == c) as (λ b. q.place ≤ (if b then message_count c past + 1 else message_count c past)) [ true ↦ omega (arith, rest) | false ↦ rest ]
  place_within (Forwarded r ∷ past) q placed at =
      ⊎_elim
      (λ (is : Forwarded r ≡ Forwarded q). let same : r ≡ q = cc in
      let mine : (r.conn == c) ≡ true = subst (λ (x : Request). (x.conn == c) ≡ true) (sym same) at.1 in
      let place = (placed.0 mine).place in subst (λ (x : Request). x.place ≤ message_count c past) same (omega (arith, place)))
      (λ (old : Contains past (Forwarded q)). place_within past q placed.1 (old, at.1))
      (Contains-cons_cases (Forwarded q) (Forwarded r) past at.0)
  place_within (fact ∷ past) q placed at = place_within past q placed.1 (older c fact past q (λ e. cc) at)

  newest_place : (past : List Fact) (q r : Request) → IsPlaced (Forwarded q) past → (q.conn == c) ≡ true → IsOf c past r → q.place ≡ r.place → ⊥
  newest_place past q r placed mine at same = let less = (placed mine).rises r at in omega (arith, less, same)

  -- a place tells a request of the client
  pub same_place : (past : List Fact) (q r : Request) → ArePlaced past → IsOf c past q → IsOf c past r → q.place ≡ r.place → q ≡ r
  same_place [] q r placed aq ar e = absurd (Contains-nil (Forwarded q) aq.0)
  same_place (fact ∷ past) q r placed aq ar e =
      let clash : (a b : Request) → (a.conn == c) ≡ true → a.place ≡ b.place → fact ≡ Forwarded a → IsOf c past b → ⊥ =
      λ a b mine same is old. newest_place past a b (subst (λ (f : Fact). IsPlaced f past) is placed.0) mine old same
      in
      ⊎_elim
      (λ (isq : fact ≡ Forwarded q). ⊎_elim (λ (isr : fact ≡ Forwarded r). let both : Forwarded q ≡ Forwarded r = sym isq ∙ isr in cc) (λ (oldr : Contains past (Forwarded r)). absurd (clash q r aq.1 e isq (oldr, ar.1))) (Contains-cons_cases (Forwarded r) fact past ar.0))
      (λ (oldq : Contains past (Forwarded q)). ⊎_elim (λ (isr : fact ≡ Forwarded r). absurd (clash r q ar.1 (sym e) isr (oldq, aq.1))) (λ (oldr : Contains past (Forwarded r)). same_place past q r placed.1 (oldq, aq.1) (oldr, ar.1) e) (Contains-cons_cases (Forwarded r) fact past ar.0))
      (Contains-cons_cases (Forwarded q) fact past aq.0)

  -- ---- requests are told by their places as by their serial numbers ----

  pub is_told : (past : List Fact) (r q : Request) → Placed past → IsOf c past r → Contains past (Forwarded q) → IsTold c r q
  is_told past r q F at_r at_q =
      let self : (r.conn == c && (r.place == r.place)) ≡ true = ap (λ (b : Bool). b && (r.place == r.place)) at_r.1 ∙ eq-eqb r.place r.place refl in
      let one : (a : Bool) → (r.serial == q.serial) ≡ a → a ≡ (q.conn == c && (r.place == q.place)) =
      λ a. elim a as (λ a. (r.serial == q.serial) ≡ a → a ≡ (q.conn == c && (r.place == q.place))) [
        | true ↦ λ e.
            let same : r ≡ q = same_serial limits past r q F.sound at_r.0 at_q (eqb-true r.serial q.serial e) in
            sym (subst (λ (x : Request). (x.conn == c && (r.place == x.place)) ≡ true) same self)
        | false ↦ λ e.
            let two : (b : Bool) → (q.conn == c) ≡ b → false ≡ (b && (r.place == q.place)) =
            λ b. elim b as (λ b. (q.conn == c) ≡ b → false ≡ (b && (r.place == q.place))) [
              | true ↦ λ mine.
                  let three : (p : Bool) → (r.place == q.place) ≡ p → false ≡ p =
                  λ p. elim p as (λ p. (r.place == q.place) ≡ p → false ≡ p) [
                    | true ↦ λ is.
                        let same : r ≡ q = same_place past r q F.placed at_r (at_q, mine) (eqb-true r.place q.place is) in
                        let clash : (r.serial == q.serial) ≡ true = eq-eqb r.serial q.serial (ap (λ (x : Request). x.serial) same) in
                        sym e ∙ clash
                    | false ↦ λ is. refl
                  ]
                  in three (r.place == q.place) refl
              | false ↦ λ mine. refl
            ]
            in two (q.conn == c) refl
      ]
      in one (r.serial == q.serial) refl

  pub is_apart : (past : List Fact) (r q : Request) → Placed past → Contains past (Forwarded r) → (r.conn == c) ≡ false → Contains past (Forwarded q) → IsOther c r q
  is_apart past r q F at_r theirs at_q = λ mine.
      let step : (a : Bool) → (r.serial == q.serial) ≡ a → a ≡ false =
      λ a. elim a as (λ a. (r.serial == q.serial) ≡ a → a ≡ false) [
        | true ↦ λ e.
            let same : r ≡ q = same_serial limits past r q F.sound at_r at_q (eqb-true r.serial q.serial e) in
            let clash : (r.conn == c) ≡ true = subst (λ (x : Request). (x.conn == c) ≡ true) (sym same) mine in
            sym clash ∙ theirs
        | false ↦ λ e. refl
      ]
      in step (r.serial == q.serial) refl

  pub all_told : (past : List Fact) (r : Request) (list : List Request) → Placed past → IsOf c past r → AllByRecursion (λ q. Contains past (Forwarded q)) list → AllByRecursion (IsTold c r) list
  all_told past r [] F at all = tt
  all_told past r (q ∷ list) F at all = (is_told past r q F at all.0, all_told past r list F at all.1)

  pub all_apart : (past : List Fact) (r : Request) (list : List Request) → Placed past → Contains past (Forwarded r) → (r.conn == c) ≡ false → AllByRecursion (λ q. Contains past (Forwarded q)) list → AllByRecursion (IsOther c r) list
  all_apart past r [] F at theirs all = tt
  all_apart past r (q ∷ list) F at theirs all = (is_apart past r q F at theirs all.0, all_apart past r list F at theirs all.1)
