-- Each client id is held once, and one whose holder went is nobody's while it is kept.
use Rattle.std.proofs.Common.{◌≡◌, ℕ, Bool, true, false, not, cond, ◌&&◌, ◌==◌, if◌then◌else◌, List, [], ◌∷◌, ◌++◌, filter, refl, ap, sym, ◌∙◌, arith, Some, None}
use Rattle.std.specs.List.{AllByRecursion}
use Rattle.std.proofs.lemmas.Bool.Decides.{nat_tests}
use Rattle.kit_bytes.proofs.Lists.{all_filter, all_weaker}
use Rattle.proxy_history.specs.Facts.{Fact, Ended, Granted, Freed, Reset, ModemLost}
use Rattle.proxy_history.specs.Modem.{now}
use Rattle.proxy_history.specs.ClientIds.{Grant, KeptId, is_of, held, kept, kept_since, holder_in}

-- ---- each id is held once ----

abbrev pub IsApart : Grant → Grant → Type 0
IsApart g h = is_of g.service g.cid h ≡ false

abbrev pub AreUnique : List Grant → Type 0
AreUnique [] = Unit {0}
AreUnique (g ∷ grants) = AllByRecursion (IsApart g) grants × AreUnique grants

all_pushed : (P : Grant → Type 0) (grants : List Grant) (g : Grant) → AllByRecursion P grants → P g → AllByRecursion P (grants ++ g ∷ [])
all_pushed P [] g all here = (here, tt)
all_pushed P (h ∷ grants) g all here = (all.0, all_pushed P grants g all.1 here)

unique_filtered : (p : Grant → Bool) (grants : List Grant) → AreUnique grants → AreUnique (filter p grants)
unique_filtered p [] unique = tt
unique_filtered p (g ∷ grants) unique =
    elim (p g) as (λ b. AreUnique (cond b (g ∷ filter p grants) (filter p grants))) [
      | true ↦ (all_filter (IsApart g) p grants unique.0, unique_filtered p grants unique.1)
      | false ↦ unique_filtered p grants unique.1
    ]

unique_pushed : (grants : List Grant) (g : Grant) → AreUnique grants → AllByRecursion (λ h. IsApart h g) grants → AreUnique (grants ++ g ∷ [])
unique_pushed [] g unique apart = (tt, tt)
unique_pushed (h ∷ grants) g unique apart = (all_pushed (IsApart h) grants g unique.0 apart.0, unique_pushed grants g unique.1 apart.1)

turned : (a b c d : ℕ) → ((a == b) && (c == d)) ≡ ((b == a) && (d == c))
turned a b c d = ap (λ (t : Bool). t && (c == d)) (flip a b) ∙ ap (λ (t : Bool). (b == a) && t) (flip c d)
  where
    by : (a b : ℕ) (t u : Bool) → (a == b) ≡ t → (b == a) ≡ u → t ≡ u
    by a b true true e f = refl
    by a b true false e f = absurd (let no : (b == a) ≡ true = grind (arith, nat_tests, e) in let clash : true ≡ false = sym no ∙ f in cc)
    by a b false true e f = absurd (let no : (a == b) ≡ true = grind (arith, nat_tests, f) in let clash : true ≡ false = sym no ∙ e in cc)
    by a b false false e f = refl

    flip : (a b : ℕ) → (a == b) ≡ (b == a)
    flip a b = by a b (a == b) (b == a) refl refl

others_apart : (service cid conn : ℕ) (grants : List Grant) → AllByRecursion (λ h. IsApart h (record { conn = conn; service = service; cid = cid })) (filter (λ g. not (is_of service cid g)) grants)
others_apart service cid conn [] = tt
others_apart service cid conn (g ∷ grants) =
    let rest = others_apart service cid conn grants in
    let step : (b : Bool) → is_of service cid g ≡ b → AllByRecursion (λ h. IsApart h (record { conn = conn; service = service; cid = cid })) (cond (not b) (g ∷ filter (λ g. not (is_of service cid g)) grants) (filter (λ g. not (is_of service cid g)) grants)) =
    λ b. elim b as (λ b. is_of service cid g ≡ b → AllByRecursion (λ h. IsApart h (record { conn = conn; service = service; cid = cid })) (cond (not b) (g ∷ filter (λ g. not (is_of service cid g)) grants) (filter (λ g. not (is_of service cid g)) grants))) [
      | true ↦ λ e. rest
      | false ↦ λ e. (turned service g.service cid g.cid ∙ e, rest)
    ]
    in step (is_of service cid g) refl

pub held_once : (facts : List Fact) → AreUnique (held facts)
unfolding held
held_once [] = tt
held_once (Granted c service cid ∷ past) =
    unique_pushed (filter (λ g. not (is_of service cid g)) (held past)) (record { conn = c; service = service; cid = cid })
    (unique_filtered (λ g. not (is_of service cid g)) (held past) (held_once past)) (others_apart service cid c (held past))
held_once (Freed c service cid ∷ past) = unique_filtered _ (held past) (held_once past)
held_once (Ended c why ∷ past) = unique_filtered _ (held past) (held_once past)
held_once (Reset ∷ past) = tt
held_once (ModemLost ∷ past) = tt
held_once (_ ∷ past) = held_once past

-- ---- nobody holds an id ----

none_filtered : (service cid : ℕ) (p : Grant → Bool) (grants : List Grant) → holder_in service cid grants ≡ None → holder_in service cid (filter p grants) ≡ None
none_filtered service cid p [] none = refl
none_filtered service cid p (g ∷ grants) none =
    let step : (b : Bool) → (if b then Some g.conn else holder_in service cid grants) ≡ None → is_of service cid g ≡ b → holder_in service cid (cond (p g) (g ∷ filter p grants) (filter p grants)) ≡ None =
    λ b. elim b as (λ b. (if b then Some g.conn else holder_in service cid grants) ≡ None → is_of service cid g ≡ b → holder_in service cid (cond (p g) (g ∷ filter p grants) (filter p grants)) ≡ None) [
      | true ↦ λ clash is. absurd (cc)
      | false ↦ λ rest is.
          let fewer : holder_in service cid (filter p grants) ≡ None = none_filtered service cid p grants rest in
          elim (p g) as (λ t. holder_in service cid (cond t (g ∷ filter p grants) (filter p grants)) ≡ None) [
            | true ↦ ap (λ (t : Bool). if t then Some g.conn else holder_in service cid (filter p grants)) is ∙ fewer
            | false ↦ fewer
          ]
    ]
    in step (is_of service cid g) none refl

none_pushed : (service cid : ℕ) (grants : List Grant) (g : Grant) → holder_in service cid grants ≡ None → is_of service cid g ≡ false → holder_in service cid (grants ++ g ∷ []) ≡ None
none_pushed service cid [] g none other = ap (λ (t : Bool). if t then Some g.conn else None) other
none_pushed service cid (h ∷ grants) g none other =
    let step : (b : Bool) → (if b then Some h.conn else holder_in service cid grants) ≡ None → (if b then Some h.conn else holder_in service cid (grants ++ g ∷ [])) ≡ None =
    λ b. elim b as (λ b. (if b then Some h.conn else holder_in service cid grants) ≡ None → (if b then Some h.conn else holder_in service cid (grants ++ g ∷ [])) ≡ None) [
      | true ↦ λ clash. absurd (cc)
      | false ↦ λ rest. none_pushed service cid grants g rest other
    ]
    in step (is_of service cid h) none

-- those that are apart from a grant don't hold its id
apart_none : (g : Grant) (grants : List Grant) → AllByRecursion (IsApart g) grants → holder_in g.service g.cid grants ≡ None
apart_none g [] all = refl
apart_none g (h ∷ grants) all = ap (λ (t : Bool). if t then Some h.conn else holder_in g.service g.cid grants) all.0 ∙ apart_none g grants all.1

-- where a connection ends, nobody holds what it held
abbrev IsLeft : ℕ → List Grant → Grant → Type 0
IsLeft c grants g = (c == g.conn) ≡ true → holder_in g.service g.cid (filter (λ h. not (c == h.conn)) grants) ≡ None

left_more : (c : ℕ) (g : Grant) (grants hs : List Grant) → AllByRecursion (IsApart g) hs → AllByRecursion (IsLeft c grants) hs → AllByRecursion (IsLeft c (g ∷ grants)) hs
left_more c g grants [] apart all = tt
left_more c g grants (h ∷ hs) apart all =
    let here : IsLeft c (g ∷ grants) h =
    λ mine. elim (c == g.conn) as (λ t. holder_in h.service h.cid (cond (not t) (g ∷ filter (λ h. not (c == h.conn)) grants) (filter (λ h. not (c == h.conn)) grants)) ≡ None) [
      | true ↦ all.0 mine
      | false ↦ ap (λ (t : Bool). if t then Some g.conn else holder_in h.service h.cid (filter (λ h. not (c == h.conn)) grants)) (turned g.service h.service g.cid h.cid ∙ apart.0) ∙ all.0 mine
    ]
    in (here, left_more c g grants hs apart.1 all.1)

all_left : (c : ℕ) (grants : List Grant) → AreUnique grants → AllByRecursion (IsLeft c grants) grants
all_left c [] unique = tt
all_left c (g ∷ grants) unique =
    let here : IsLeft c (g ∷ grants) g =
    λ mine. ap (λ (t : Bool). holder_in g.service g.cid (cond (not t) (g ∷ filter (λ h. not (c == h.conn)) grants) (filter (λ h. not (c == h.conn)) grants))) mine
    ∙ none_filtered g.service g.cid (λ h. not (c == h.conn)) grants (apart_none g grants unique.0)
    in (here, left_more c g grants grants unique.0 (all_left c grants unique.1))

-- ---- the ids that are kept ----

abbrev IsNobodys : List Grant → KeptId → Type 0
IsNobodys grants k = holder_in k.service k.cid grants ≡ None

all_append : (P : KeptId → Type 0) (xs ys : List KeptId) → AllByRecursion P xs → AllByRecursion P ys → AllByRecursion P (xs ++ ys)
all_append P [] ys a b = b
all_append P (x ∷ xs) ys a b = (a.0, all_append P xs ys a.1 b)

kept_left : (c time : ℕ) (all grants : List Grant) → AllByRecursion (IsLeft c all) grants
    → AllByRecursion (IsNobodys (filter (λ h. not (c == h.conn)) all)) (kept_since time (filter (λ g. c == g.conn) grants))
kept_left c time all [] left = tt
kept_left c time all (g ∷ grants) left =
    let rest = kept_left c time all grants left.1 in
    let step : (b : Bool) → (c == g.conn) ≡ b → AllByRecursion (IsNobodys (filter (λ h. not (c == h.conn)) all)) (kept_since time (cond b (g ∷ filter (λ g. c == g.conn) grants) (filter (λ g. c == g.conn) grants))) =
    λ b. elim b as (λ b. (c == g.conn) ≡ b → AllByRecursion (IsNobodys (filter (λ h. not (c == h.conn)) all)) (kept_since time (cond b (g ∷ filter (λ g. c == g.conn) grants) (filter (λ g. c == g.conn) grants)))) [
      | true ↦ λ mine. (left.0 mine, rest)
      | false ↦ λ other. rest
    ]
    in step (c == g.conn) refl

kept_granted : (c service cid : ℕ) (grants : List Grant) (ids : List KeptId) → AllByRecursion (IsNobodys grants) ids
    → AllByRecursion (IsNobodys (filter (λ g. not (is_of service cid g)) grants ++ record { conn = c; service = service; cid = cid } ∷ [])) (filter (λ k. not (k.service == service && (k.cid == cid))) ids)
kept_granted c service cid grants [] all = tt
kept_granted c service cid grants (k ∷ ids) all =
    let After : List KeptId → Type 0 = AllByRecursion (IsNobodys (filter (λ g. not (is_of service cid g)) grants ++ record { conn = c; service = service; cid = cid } ∷ [])) in
    let rest : After (filter (λ (k : KeptId). not (k.service == service && (k.cid == cid))) ids) = kept_granted c service cid grants ids all.1 in
    let step : (b : Bool) → (k.service == service && (k.cid == cid)) ≡ b → After (cond (not b) (k ∷ filter (λ (k : KeptId). not (k.service == service && (k.cid == cid))) ids) (filter (λ (k : KeptId). not (k.service == service && (k.cid == cid))) ids)) =
    λ b. elim b as (λ b. (k.service == service && (k.cid == cid)) ≡ b → After (cond (not b) (k ∷ filter (λ (k : KeptId). not (k.service == service && (k.cid == cid))) ids) (filter (λ (k : KeptId). not (k.service == service && (k.cid == cid))) ids))) [
      | true ↦ λ is. rest
      | false ↦ λ other. (
        none_pushed k.service k.cid (filter (λ g. not (is_of service cid g)) grants) (record { conn = c; service = service; cid = cid }) (none_filtered k.service k.cid (λ g. not (is_of service cid g)) grants all.0) (turned service k.service cid k.cid ∙ other),
        rest,
      )
    ]
    in step (k.service == service && (k.cid == cid)) refl

pub kept_are_nobodys : (past : List Fact) → AllByRecursion (λ k. holder_in k.service k.cid (held past) ≡ None) (kept past)
unfolding held kept
kept_are_nobodys [] = tt
kept_are_nobodys (Granted c service cid ∷ past) = kept_granted c service cid (held past) (kept past) (kept_are_nobodys past)
kept_are_nobodys (Freed c service cid ∷ past) = all_weaker _ _ (λ k none. none_filtered k.service k.cid _ (held past) none) (kept past) (kept_are_nobodys past)
kept_are_nobodys (Ended c why ∷ past) =
    all_append _ (kept past) (kept_since (now past) (filter (λ g. c == g.conn) (held past)))
    (all_weaker _ _ (λ k none. none_filtered k.service k.cid _ (held past) none) (kept past) (kept_are_nobodys past))
    (kept_left c (now past) (held past) (held past) (all_left c (held past) (held_once past)))
kept_are_nobodys (Reset ∷ past) = tt
kept_are_nobodys (ModemLost ∷ past) = tt
kept_are_nobodys (_ ∷ past) = kept_are_nobodys past
