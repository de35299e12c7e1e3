-- The client ids that are held are those that were granted and that no later fact ends, each once.
use Rattle.std.proofs.Common.{◌≡◌, ◌↔◌, ◌⊎◌, ℕ, zero, Bool, true, false, not, ◌&&◌, ◌==◌, if◌then◌else◌, List, [], ◌∷◌, ◌++◌, refl, ap, sym, ◌∙◌, ⊎_elim, arith, Contains, filter, subst, append-nil, Some}
use Rattle.std.proofs.lemmas.Bool.Decides.{nat_tests}
use Rattle.std.proofs.lemmas.List.Elements.{Contains-append_cases}
use Rattle.proxy_history.specs.Facts.{Fact, Ended, Granted, Freed, Reset, ModemLost}
use Rattle.proxy_history.specs.ClientIds.{Grant, is_of, held, holder, holder_in}
use Rattle.proxy_history.specs.Laws.{GoesOn}
use Rattle.proxy_history.specs.Holding.{grants, ends_holding}
use Rattle.proxy_history.proofs.Lists.{Contains-nil, Contains-cons, Contains-cons_cases, Contains-filter_from, Contains-filter_passes}
use Rattle.proxy_history.proofs.Sound.{both_left}
use Rattle.proxy_history.proofs.GoesOn.{same, cleared, kept_exactly}

-- the grant that a fact makes
granted : Fact → List Grant
granted (Granted c service cid) = record { conn = c; service = service; cid = cid } ∷ []
granted _ = []

granted_is : (fact : Fact) (g : Grant) → Contains (granted fact) g → fact ≡ grants g
unfolding granted
granted_is (Granted c service cid) g at =
    ⊎_elim (λ (is : record { conn = c; service = service; cid = cid } ≡ g). ap (λ (x : Grant). grants x) is) (λ (none : Contains [] g). absurd (Contains-nil g none))
    (Contains-cons_cases g (record { conn = c; service = service; cid = cid }) [] at)
granted_is _ g at = absurd (Contains-nil g at)

held-step : (fact : Fact) (past : List Fact) → held (fact ∷ past) ≡ filter (λ g. not (ends_holding g fact)) (held past) ++ granted fact
unfolding held granted
held-step (Granted c service cid) past = refl
held-step (Freed c service cid) past = sym (append-nil _)
held-step (Ended c why) past = sym (append-nil _)
held-step Reset past = cleared (held past)
held-step ModemLost past = cleared (held past)
held-step _ past = same (held past)

pub held-exactly : (facts : List Fact) (g : Grant) → Contains (held facts) g ↔ GoesOn grants ends_holding g facts
unfolding held granted
held-exactly = kept_exactly grants granted ends_holding held granted_is (λ g. refl) refl held-step

-- ---- each id once ----

id_of : (service cid : ℕ) (g : Grant) → is_of service cid g ≡ true → (g.service ≡ service) × (g.cid ≡ cid)
id_of service cid g e =
    let first : (g.service == service) ≡ true = both_left (g.service == service) (g.cid == cid) e in
    let second : (g.cid == cid) ≡ true = sym (ap (λ (b : Bool). b && (g.cid == cid)) first) ∙ e in
    (grind (arith, nat_tests, first), grind (arith, nat_tests, second))

-- a grant that is older than another one of its id isn't held
outlived : (service cid : ℕ) (g h : Grant) (fact : Fact) → is_of service cid g ≡ true → is_of service cid h ≡ true → fact ≡ grants h → not (ends_holding g fact) ≡ true → ⊥
outlived service cid g h fact og oh new kept =
    let id = id_of service cid h oh in
    let ends : ends_holding g fact ≡ true = ap (ends_holding g) new ∙ ap (λ (n : ℕ). is_of n h.cid g) id.0 ∙ ap (λ (n : ℕ). is_of service n g) id.1 ∙ og in
    let clash : false ≡ true = sym (ap not ends) ∙ kept in cc

-- the grant that a fact is of
grant_of : Fact → Grant
grant_of (Granted c service cid) = record { conn = c; service = service; cid = cid }
grant_of _ = record { conn = 0; service = 0; cid = 0 }

same_grant : (g h : Grant) → grants g ≡ grants h → g ≡ h
unfolding grant_of
same_grant g h e = ap grant_of e

once : (service cid : ℕ) (facts : List Fact) (g h : Grant) → Contains (held facts) g → Contains (held facts) h → is_of service cid g ≡ true → is_of service cid h ≡ true → g ≡ h
unfolding held
once service cid [] g h ag ah og oh = absurd (Contains-nil g ag)
once service cid (fact ∷ past) g h ag ah og oh =
    let Kept : List Grant = filter (λ x. not (ends_holding x fact)) (held past) in
    let cases : (x : Grant) → Contains (held (fact ∷ past)) x → Contains Kept x ⊎ Contains (granted fact) x =
    λ x at. Contains-append_cases Kept (granted fact) x (subst (λ (l : List Grant). Contains l x) (held-step fact past) at) in
    let passes : (x : Grant) → Contains Kept x → not (ends_holding x fact) ≡ true = Contains-filter_passes (λ x. not (ends_holding x fact)) (held past) in
    let before : (x : Grant) → Contains Kept x → Contains (held past) x = Contains-filter_from (λ x. not (ends_holding x fact)) (held past) in
    ⊎_elim
    (λ (old : Contains Kept g). ⊎_elim
    (λ (older : Contains Kept h). once service cid past g h (before g old) (before h older) og oh)
    (λ (new : Contains (granted fact) h). absurd (outlived service cid g h fact og oh (granted_is fact h new) (passes g old)))
    (cases h ah))
    (λ (new : Contains (granted fact) g). ⊎_elim
    (λ (old : Contains Kept h). absurd (outlived service cid h g fact oh og (granted_is fact g new) (passes h old)))
    (λ (newer : Contains (granted fact) h). same_grant g h (sym (granted_is fact g new) ∙ granted_is fact h newer))
    (cases h ah))
    (cases g ag)

-- ---- the holder ----

own : (service cid : ℕ) → (service == service && (cid == cid)) ≡ true
own service cid = grind (arith, nat_tests)

found_is_held : (c service cid : ℕ) (gs : List Grant) → holder_in service cid gs ≡ Some c → Contains gs (record { conn = c; service = service; cid = cid })
found_is_held c service cid [] e = absurd (cc)
found_is_held c service cid (g ∷ gs) e =
    let wanted : Grant = record { conn = c; service = service; cid = cid } in
    let step : (b : Bool) → is_of service cid g ≡ b → (if b then Some g.conn else holder_in service cid gs) ≡ Some c → Contains (g ∷ gs) wanted =
    λ b. elim b as (λ b. is_of service cid g ≡ b → (if b then Some g.conn else holder_in service cid gs) ≡ Some c → Contains (g ∷ gs) wanted) [
      | true ↦ λ is found.
          let id = id_of service cid g is in
          let conn : g.conn ≡ c = cc in
          let same : grants g ≡ grants wanted = ap (λ (n : ℕ). Granted n g.service g.cid) conn ∙ ap (λ (n : ℕ). Granted c n g.cid) id.0 ∙ ap (λ (n : ℕ). Granted c service n) id.1 in
          (zero, omega arith, same_grant g wanted same)
      | false ↦ λ is found. Contains-cons wanted g gs (found_is_held c service cid gs found)
    ]
    in step (is_of service cid g) refl e

held_is_found : (c service cid : ℕ) (gs : List Grant) → Contains gs (record { conn = c; service = service; cid = cid }) → (d : ℕ) × (holder_in service cid gs ≡ Some d)
held_is_found c service cid [] at = absurd (Contains-nil _ at)
held_is_found c service cid (g ∷ gs) at =
    let wanted : Grant = record { conn = c; service = service; cid = cid } in
    let step : (b : Bool) → is_of service cid g ≡ b → (d : ℕ) × ((if b then Some g.conn else holder_in service cid gs) ≡ Some d) =
    λ b. elim b as (λ b. is_of service cid g ≡ b → (d : ℕ) × ((if b then Some g.conn else holder_in service cid gs) ≡ Some d)) [
      | true ↦ λ is. (g.conn, refl)
      | false ↦ λ is. ⊎_elim
          (λ (same : g ≡ wanted). let clash : false ≡ true = sym is ∙ ap (is_of service cid) same ∙ own service cid in absurd (cc))
          (λ (later : Contains gs wanted). held_is_found c service cid gs later)
          (Contains-cons_cases wanted g gs at)
    ]
    in step (is_of service cid g) refl

pub holders_were_granted_last : (facts : List Fact) (c service cid : ℕ)
    → (holder service cid facts ≡ Some c) ↔ GoesOn grants ends_holding (record { conn = c; service = service; cid = cid }) facts
holders_were_granted_last facts c service cid =
    let grant_to : ℕ → Grant = λ d. record { conn = d; service = service; cid = cid } in (
      λ found. (held-exactly facts (grant_to c)).0 (found_is_held c service cid (held facts) found),
      λ goes.
          let there = (held-exactly facts (grant_to c)).1 goes in
          let found = held_is_found c service cid (held facts) there in
          let same = once service cid facts (grant_to found.0) (grant_to c) (found_is_held found.0 service cid (held facts) found.1) there (own service cid) (own service cid) in
          found.1 ∙ ap (λ (g : Grant). Some g.conn) same,
    )
