-- The client ids that are kept are those whose holder ended, until a later fact ends that.
use Rattle.std.proofs.Common.{◌≡◌, ◌↔◌, ℕ, zero, not, ◌==◌, List, [], ◌∷◌, ◌++◌, refl, ap, sym, ◌∙◌, ⊎_elim, arith, Contains, filter, subst, append-nil, Some}
use Rattle.std.proofs.lemmas.Bool.{eqb-true, eq-eqb}
use Rattle.proxy_history.specs.Facts.{Why, Fact, Ended, Granted, Reset, ModemLost}
use Rattle.proxy_history.specs.Modem.{now}
use Rattle.proxy_history.specs.ClientIds.{Grant, KeptId, held, kept, kept_since, holder}
use Rattle.proxy_history.specs.Holding.{ends_keeping, IsLeftSince}
use Rattle.proxy_history.proofs.Lists.{filter-all, Contains-nil, Contains-cons, Contains-cons_cases, Contains-filter, Contains-filter_from, Contains-filter_passes}
use Rattle.proxy_history.proofs.GoesOn.{kept_until_ended, same, cleared}
use Rattle.proxy_history.proofs.Holding.{held-exactly, holders_were_granted_last}

-- the ids that are kept from a fact on
left : Fact → List Fact → List KeptId
left (Ended c why) past = kept_since (now past) (filter (λ g. c == g.conn) (held past))
left _ past = []

kept-step : (fact : Fact) (past : List Fact) → kept (fact ∷ past) ≡ filter (λ k. not (ends_keeping k fact)) (kept past) ++ left fact past
unfolding kept left
kept-step (Granted c service cid) past = sym (append-nil _)
kept-step (Ended c why) past = ap (λ (l : List KeptId). l ++ kept_since (now past) (filter (λ g. c == g.conn) (held past))) (sym (filter-all (kept past)))
kept-step Reset past = cleared (kept past)
kept-step ModemLost past = cleared (kept past)
kept-step _ past = same (kept past)

-- ---- what a connection that ends leaves ----

abbrev grant_to : ℕ → KeptId → Grant
grant_to c k = record { conn = c; service = k.service; cid = k.cid }

-- each of them was granted, and is kept since this time
since_granted : (time : ℕ) (grants : List Grant) (k : KeptId) → Contains (kept_since time grants) k → (c : ℕ) × (Contains grants (grant_to c k) × (time ≡ k.since))
since_granted time [] k at = absurd (Contains-nil k at)
since_granted time (g ∷ grants) k at =
    ⊎_elim
    (λ (here : record { service = g.service; cid = g.cid; since = time } ≡ k).
    subst (λ (x : KeptId). (c : ℕ) × (Contains (g ∷ grants) (grant_to c x) × (time ≡ x.since))) here (g.conn, ((zero, omega arith, refl), refl)))
    (λ (later : Contains (kept_since time grants) k).
    let rest = since_granted time grants k later in (rest.0, (Contains-cons (grant_to rest.0 k) g grants rest.1.0, rest.1.1)))
    (Contains-cons_cases k (record { service = g.service; cid = g.cid; since = time }) (kept_since time grants) at)

granted_since : (c time : ℕ) (grants : List Grant) (k : KeptId) → Contains grants (grant_to c k) → time ≡ k.since → Contains (kept_since time grants) k
granted_since c time [] k at is = absurd (Contains-nil (grant_to c k) at)
granted_since c time (g ∷ grants) k at is =
    let first : KeptId = record { service = g.service; cid = g.cid; since = time } in
    ⊎_elim
    (λ (here : g ≡ grant_to c k).
    let same : first ≡ k = ap (λ (x : Grant). let v : KeptId = record { service = x.service; cid = x.cid; since = time } in v) here ∙ ap (λ (n : ℕ). let v : KeptId = record { service = k.service; cid = k.cid; since = n } in v) is in
    (zero, omega arith, same))
    (λ (later : Contains grants (grant_to c k)). Contains-cons k first (kept_since time grants) (granted_since c time grants k later is))
    (Contains-cons_cases (grant_to c k) g grants at)

-- a connection that ended, and what it held then
record IsLeft (k : KeptId) (fact : Fact) (past : List Fact) : Type 0 where
  conn : ℕ
  why : Why
  is : fact ≡ Ended conn why
  held : holder k.service k.cid past ≡ Some conn
  time : now past ≡ k.since

left_is : (fact : Fact) (past : List Fact) (k : KeptId) → Contains (left fact past) k → IsLeft k fact past
unfolding left
left_is (Ended c why) past k at =
    let found = since_granted (now past) (filter (λ g. c == g.conn) (held past)) k at in
    let g : Grant = grant_to found.0 k in
    let same : c ≡ found.0 = eqb-true c found.0 (Contains-filter_passes (λ h. c == h.conn) (held past) g found.1.0) in
    let there = Contains-filter_from (λ h. c == h.conn) (held past) g found.1.0 in
    record { conn = c; why = why; is = refl; held = (holders_were_granted_last past found.0 k.service k.cid).1 ((held-exactly past g).0 there) ∙ ap Some (sym same); time = found.1.1 }
left_is _ past k at = absurd (Contains-nil k at)

is_left : (conn : ℕ) (why : Why) (past : List Fact) (k : KeptId) → holder k.service k.cid past ≡ Some conn → now past ≡ k.since → Contains (left (Ended conn why) past) k
unfolding left
is_left conn why past k its is =
    let there = (held-exactly past (grant_to conn k)).1 ((holders_were_granted_last past conn k.service k.cid).0 its) in
    granted_since conn (now past) (filter (λ g. conn == g.conn) (held past)) k (Contains-filter (λ g. conn == g.conn) (held past) (grant_to conn k) there (eq-eqb conn conn refl)) is

pub kept-exactly : (facts : List Fact) (k : KeptId) → Contains (kept facts) k ↔ IsLeftSince k facts
unfolding kept left
kept-exactly facts k =
    let law = kept_until_ended left ends_keeping kept refl kept-step facts k in (
      λ at.
          let g = law.0 at in
          let l = left_is g.fact g.earlier k g.begins in
          record { conn = l.conn; why = l.why; later = g.later; earlier = g.earlier; whole = g.whole ∙ ap (λ (f : Fact). g.later ++ f ∷ g.earlier) l.is; held = l.held; time = l.time; none = g.none },
      λ s. law.1 (record { later = s.later; fact = Ended s.conn s.why; earlier = s.earlier; whole = s.whole; begins = is_left s.conn s.why s.earlier k s.held s.time; none = s.none }),
    )
