-- What a proxy needs to see that its history is sound, and what follows for every sound history.
use Rattle.std.proofs.Common.{◌≡◌, ℕ, zero, ◌+◌, ◌≤◌, Bool, true, false, not, cond, ◌&&◌, ◌||◌, ◌==◌, if◌then◌else◌, List, [], ◌∷◌, refl, ap, sym, ◌∙◌, ⊎_elim, arith, All, Contains, subst}
use Rattle.std.specs.List.{AllByRecursion}
use Rattle.std.proofs.lemmas.Bool.Decides.{nat_tests}
use Rattle.std.proofs.lemmas.List.Elements.{All-nil, All-cons, All-weaker, Contains-append_right}
use Rattle.std.proofs.lemmas.Bool.{or_right}
use Rattle.proxy_history.specs.Limits.{Limits}
use Rattle.proxy_history.specs.Facts.{NoRoom, Fact, Request, Ended, Forwarded, Expired, Aborted}
use Rattle.proxy_history.specs.Connections.{contains, without, is_present}
use Rattle.proxy_history.specs.Requests.{in_use, pending, is_pending, has_request, forward_count}
use Rattle.proxy_history.specs.Wording.{Wording}
use Rattle.proxy_history.specs.Noting.{end_overfull, note, rendering, receivers_of}
use Rattle.proxy_history.specs.Laws.{frees_number, ends_waiting}
use Rattle.proxy_history.specs.Sound.{IsPresent, IsParty, IsNextRequest, IsSound}
use Rattle.proxy_history.proofs.Lists.{Contains-nil, Contains-cons, Contains-cons_cases}
use Rattle.proxy_history.proofs.GoesOn.{in_use-exactly, pending-exactly}

-- ---- tests ----

pub both_left : (a b : Bool) → (a && b) ≡ true → a ≡ true
both_left true b e = refl
both_left false b e = e

pub party_from_present : (c : ℕ) (past : List Fact) → IsPresent c past → IsParty c past
party_from_present c past there = or_right (c == 0) (is_present c past) there

-- each of a list is in it
pub each_contained : (xs : List ℕ) → All (λ x. contains x xs ≡ true) xs
each_contained [] = All-nil (λ (x : ℕ). contains x [] ≡ true)
each_contained (y ∷ ys) =
    All-cons (λ (x : ℕ). contains x (y ∷ ys) ≡ true) y ys
    (let same : (y == y) ≡ true = grind (arith, nat_tests) in ap (λ (b : Bool). b || contains y ys) same)
    (All-weaker (λ (x : ℕ). contains x ys ≡ true) (λ (x : ℕ). contains x (y ∷ ys) ≡ true) (λ x e. or_right (x == y) (contains x ys) e) ys (each_contained ys))

pub contains-without_self : (x : ℕ) (xs : List ℕ) → contains x (without x xs) ≡ false
contains-without_self x [] = refl
contains-without_self x (y ∷ ys) =
    let step : (b : Bool) → (x == y) ≡ b → contains x (cond (not b) (y ∷ without x ys) (without x ys)) ≡ false =
    λ b. elim b as (λ b. (x == y) ≡ b → contains x (cond (not b) (y ∷ without x ys) (without x ys)) ≡ false) [
      | true ↦ λ e. contains-without_self x ys
      | false ↦ λ e. ap (λ (b : Bool). b || contains x (without x ys)) e ∙ contains-without_self x ys
    ]
    in step (x == y) refl

-- ---- a request and its serial number ----

-- what waits is in use
waits_is_in_use : (r : Request) (fact : Fact) → ends_waiting r fact ≡ false → frees_number r fact ≡ false
waits_is_in_use r (Expired q) e = refl
waits_is_in_use r (Aborted q) e = refl
waits_is_in_use r (Ended c why) e = refl
waits_is_in_use r _ e = e

pub in_use_from_pending : (past : List Fact) (r : Request) → Contains (pending past) r → Contains (in_use past) r
in_use_from_pending past r at =
    let goes = (pending-exactly past r).0 at in
    (in_use-exactly past r).1 (record {
      later = goes.later;
      earlier = goes.earlier;
      whole = goes.whole;
      none = All-weaker (λ (f : Fact). ends_waiting r f ≡ false) (λ (f : Fact). frees_number r f ≡ false) (waits_is_in_use r) goes.later goes.none;
    })

pub forwarded_from_in_use : (past : List Fact) (r : Request) → Contains (in_use past) r → Contains past (Forwarded r)
forwarded_from_in_use past r at =
    let goes = (in_use-exactly past r).0 at in
    subst (λ (l : List Fact). Contains l (Forwarded r)) (sym goes.whole)
    (Contains-append_right goes.later (Forwarded r ∷ goes.earlier) (Forwarded r) (zero, omega arith, refl))

-- ---- the ends that a fact brings with it ----

module _ {Known : Type 0} (limits : Limits) (wording : Wording Known) (P : List Fact → Type 0) where
  abbrev pub KeptByEnd : ℕ → Type 0
  KeptByEnd c = (past : List Fact) → IsPresent c past → P past → P (Ended c NoRoom ∷ past)

  pub kept_by_ends : (cs : List ℕ) (past : List Fact) → AllByRecursion KeptByEnd cs → P past → P (end_overfull limits wording cs past)
  unfolding end_overfull
  kept_by_ends [] past each p = p
  kept_by_ends (c ∷ cs) past each p = kept_by_ends cs _ each.1 (by (is_present c past && (rendering limits wording c past).is_over) refl)
    where
      by : (b : Bool) → (is_present c past && (rendering limits wording c past).is_over) ≡ b → P (let after : List Fact = if b then Ended c NoRoom ∷ past else past in after)
      by true is = each.0 past (both_left (is_present c past) (rendering limits wording c past).is_over is) p
      by false isnt = p

  -- whoever it is that ends
  module _ (ended : (c : ℕ) → KeptByEnd c) where
    pub kept_by_any_ends : (cs : List ℕ) (past : List Fact) → P past → P (end_overfull limits wording cs past)
    kept_by_any_ends cs past p = kept_by_ends cs past (all cs) p
      where
        all : (cs : List ℕ) → AllByRecursion KeptByEnd cs
        all [] = tt
        all (c ∷ cs) = (ended c, all cs)

    pub kept_by_note : (fact : Fact) (past : List Fact) → P (fact ∷ past) → P (note limits wording fact past)
    kept_by_note fact past p = kept_by_any_ends (receivers_of fact) (fact ∷ past) p

module _ (limits : Limits) where
  abbrev pub Sound : List Fact → Type 0
  Sound past = IsSound limits past

  forward_count-more : (fact : Fact) (past : List Fact) → forward_count past ≤ forward_count (fact ∷ past)
  unfolding forward_count
  forward_count-more (Forwarded r) past = omega arith
  forward_count-more _ past = omega arith

  forward_count-forwarded : (r : Request) (past : List Fact) → forward_count (Forwarded r ∷ past) ≡ forward_count past + 1
  unfolding forward_count
  forward_count-forwarded r past = refl

  pub next_of : (r : Request) (past : List Fact) → Sound (Forwarded r ∷ past) → IsNextRequest limits r past
  next_of r past s = s.0

  sound_tail : (fact : Fact) (past : List Fact) → Sound (fact ∷ past) → Sound past
  sound_tail fact past s = s.1

  pub serial_within : (past : List Fact) (r : Request) → Sound past → Contains past (Forwarded r) → r.serial ≤ forward_count past
  serial_within [] r s at = absurd (Contains-nil (Forwarded r) at)
  serial_within (fact ∷ past) r s at =
      ⊎_elim
      (λ (is : fact ≡ Forwarded r).
      let new : Sound (Forwarded r ∷ past) = subst (λ (f : Fact). Sound (f ∷ past)) is s in
      let next = (next_of r past new).serial in
      let count = forward_count-forwarded r past in
      subst (λ (f : Fact). r.serial ≤ forward_count (f ∷ past)) (sym is) (omega arith))
      (λ (old : Contains past (Forwarded r)). let low = serial_within past r (sound_tail fact past s) old in let more = forward_count-more fact past in omega arith)
      (Contains-cons_cases (Forwarded r) fact past at)

  -- a serial number tells a request
  pub same_serial : (past : List Fact) (q r : Request) → Sound past → Contains past (Forwarded q) → Contains past (Forwarded r) → q.serial ≡ r.serial → q ≡ r
  same_serial [] q r s aq ar e = absurd (Contains-nil (Forwarded q) aq)
  same_serial (fact ∷ past) q r s aq ar e =
      let tail = sound_tail fact past s in
      let clash : (a b : Request) → a.serial ≡ b.serial → fact ≡ Forwarded a → Contains past (Forwarded b) → ⊥ =
      λ a b same is old.
      let new : Sound (Forwarded a ∷ past) = subst (λ (f : Fact). Sound (f ∷ past)) is s in
      let next = (next_of a past new).serial in
      let low = serial_within past b tail old in
      omega arith
      in
      ⊎_elim
      (λ (isq : fact ≡ Forwarded q). ⊎_elim (λ (isr : fact ≡ Forwarded r). let both : Forwarded q ≡ Forwarded r = sym isq ∙ isr in cc) (λ (oldr : Contains past (Forwarded r)). absurd (clash q r e isq oldr)) (Contains-cons_cases (Forwarded r) fact past ar))
      (λ (oldq : Contains past (Forwarded q)). ⊎_elim (λ (isr : fact ≡ Forwarded r). absurd (clash r q (sym e) isr oldq)) (λ (oldr : Contains past (Forwarded r)). same_serial past q r tail oldq oldr e) (Contains-cons_cases (Forwarded r) fact past ar))
      (Contains-cons_cases (Forwarded q) fact past aq)

  has_some : (r : Request) (qs : List Request) → has_request r qs ≡ true → (q : Request) × Contains qs q × (r.serial ≡ q.serial)
  has_some r [] e = absurd (cc)
  has_some r (q ∷ qs) e =
      let step : (b : Bool) → (r.serial == q.serial) ≡ b → (b || has_request r qs) ≡ true → (x : Request) × Contains (q ∷ qs) x × (r.serial ≡ x.serial) =
      λ b. elim b as (λ b. (r.serial == q.serial) ≡ b → (b || has_request r qs) ≡ true → (x : Request) × Contains (q ∷ qs) x × (r.serial ≡ x.serial)) [
        | true ↦ λ is has. (q, (zero, omega arith, refl), grind (arith, nat_tests, is))
        | false ↦ λ is has. let found = has_some r qs has in (found.0, Contains-cons found.0 q qs found.1, found.2)
      ]
      in step (r.serial == q.serial) refl e

  -- a request that was forwarded and whose serial number waits is one that waits
  pub waits : (past : List Fact) (r : Request) → Sound past → Contains past (Forwarded r) → is_pending r past ≡ true → Contains (pending past) r
  waits past r s at is =
      let found = has_some r (pending past) is in
      let q = found.0 in
      let forwarded = forwarded_from_in_use past q (in_use_from_pending past q found.1) in
      subst (λ (x : Request). Contains (pending past) x) (same_serial past q r s forwarded at (sym found.2)) found.1
