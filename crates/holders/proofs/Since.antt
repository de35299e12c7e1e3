-- The ids that are held after a list of calls.
use Rattle.std.proofs.Common.{◌≡◌, ◌↔◌, ℕ, Bool, true, false, not, List, [], ◌∷◌, ◌++◌, filter, refl, ap, sym, ◌∙◌, Some, ⊎_elim, subst, All, Contains, ◌==◌}
use Rattle.std.proofs.lemmas.Bool.{eqb-true, not-true}
use Rattle.std.proofs.lemmas.List.Elements.{All-nil, All-cons, All-head, All-tail, Contains-append_left, Contains-append_cases, Contains-push}
use Rattle.proxy_history.specs.ClientIds.{Grant, is_of, holder_in, is_other}
use Rattle.proxy_history.proofs.Lists.{Contains-nil, Contains-cons_cases, Contains-filter, Contains-filter_from, Contains-filter_passes}
use Rattle.holders.specs.Grants.{is_of_both, is_taken}
use Rattle.holders.specs.Calls.{Call, Grants, Releases, Leaves, Clears, IsOnce, granted_last, granted_last_unless, held_after}
use Rattle.holders.specs.Laws.{ends, IsGrantedAndNotEnded}
use Rattle.holders.proofs.Order.{is_of-is}
use Rattle.holders.proofs.Sets.{once_filter, once_granted, holder_contains, contains_holder}

once_unless : (b : Bool) (conn s i : ℕ) (held : List Grant) → IsOnce held → IsOnce (granted_last_unless b conn s i held)
once_unless true conn s i held once = once
once_unless false conn s i held once = once_granted conn s i held once

held_once : (calls : List Call) → IsOnce (held_after calls)
unfolding IsOnce
held_once [] = tt
held_once (Grants conn s i ∷ past) = once_unless (is_taken conn s i (held_after past)) conn s i (held_after past) (held_once past)
held_once (Releases conn s i ∷ past) = once_filter (λ g. not (is_of_both conn s i g)) (held_after past) (held_once past)
held_once (Leaves conn time ∷ past) = once_filter (λ g. not (conn == g.conn)) (held_after past) (held_once past)
held_once (Clears ∷ past) = tt

-- ---- who holds an id was granted it, and that hasn't ended since ----

since_more : (g : Grant) (call : Call) (past : List Call) → ends g call ≡ false → IsGrantedAndNotEnded g past → IsGrantedAndNotEnded g (call ∷ past)
since_more g call past keeps since = record {
  later = call ∷ since.later;
  earlier = since.earlier;
  whole = ap (λ (l : List Call). call ∷ l) since.whole;
  free = since.free;
  none = All-cons (λ c. ends g c ≡ false) call since.later keeps since.none;
}

granted_since : (g : Grant) (conn s i : ℕ) (past : List Call) → (Contains (held_after past) g → IsGrantedAndNotEnded g past) → (taken : Bool) → is_taken conn s i (held_after past) ≡ taken
    → Contains (granted_last_unless taken conn s i (held_after past)) g → IsGrantedAndNotEnded g (Grants conn s i ∷ past)
granted_since g conn s i past since true is at = since_more g (Grants conn s i) past refl (since at)
granted_since g conn s i past since false is at =
    ⊎_elim
    (λ (old : Contains (filter (λ h. not (is_of s i h)) (held_after past)) g). since_more g (Grants conn s i) past refl (since (Contains-filter_from (λ h. not (is_of s i h)) (held_after past) g old)))
    (λ (new : Contains (record { conn = conn; service = s; cid = i } ∷ []) g).
    ⊎_elim
    (λ (same : record { conn = conn; service = s; cid = i } ≡ g). subst (λ (h : Grant). IsGrantedAndNotEnded h (Grants conn s i ∷ past)) same newest)
    (λ (none : Contains [] g). absurd (Contains-nil g none))
    (Contains-cons_cases g (record { conn = conn; service = s; cid = i }) [] new))
    (Contains-append_cases (filter (λ h. not (is_of s i h)) (held_after past)) (record { conn = conn; service = s; cid = i } ∷ []) g at)
  where
    newest : IsGrantedAndNotEnded (record { conn = conn; service = s; cid = i }) (Grants conn s i ∷ past)
    newest = record {
      later = [];
      earlier = past;
      whole = refl;
      free = is;
      none = All-nil (λ (c : Call). ends (record { conn = conn; service = s; cid = i }) c ≡ false);
    }

held_since : (calls : List Call) (g : Grant) → Contains (held_after calls) g → IsGrantedAndNotEnded g calls
held_since [] g at = absurd (Contains-nil g at)
held_since (Grants conn s i ∷ past) g at = granted_since g conn s i past (held_since past g) (is_taken conn s i (held_after past)) refl at
held_since (Releases conn s i ∷ past) g at =
    since_more g (Releases conn s i) past (not-true (is_of_both conn s i g) (Contains-filter_passes (λ h. not (is_of_both conn s i h)) (held_after past) g at)) (held_since past g (Contains-filter_from (λ h. not (is_of_both conn s i h)) (held_after past) g at))
held_since (Leaves conn time ∷ past) g at =
    since_more g (Leaves conn time) past (not-true (conn == g.conn) (Contains-filter_passes (λ h. not (conn == h.conn)) (held_after past) g at)) (held_since past g (Contains-filter_from (λ h. not (conn == h.conn)) (held_after past) g at))
held_since (Clears ∷ past) g at = absurd (Contains-nil g at)

-- ---- and the other way round ----

holder_of : (g : Grant) (s i : ℕ) (held : List Grant) → IsOnce held → Contains held g → is_of s i g ≡ true → holder_in s i held ≡ Some g.conn
holder_of g s i held once at of =
    sym (ap (λ (t : ℕ). holder_in t g.cid held) (is_of-is s i g of).0 ∙ ap (λ (u : ℕ). holder_in s u held) (is_of-is s i g of).1) ∙ contains_holder g.service g.cid g.conn held once at

new_is : (g : Grant) (conn s i : ℕ) → g.conn ≡ conn → is_of s i g ≡ true → record { conn = conn; service = s; cid = i } ≡ g
new_is g conn s i same of =
    let one : record { conn = conn; service = s; cid = i } ≡ record { conn = g.conn; service = s; cid = i } = ap (λ (x : ℕ). record { conn = x; service = s; cid = i }) (sym same) in
    let two : record { conn = g.conn; service = s; cid = i } ≡ record { conn = g.conn; service = g.service; cid = i } = ap (λ (x : ℕ). record { conn = g.conn; service = x; cid = i }) (sym (is_of-is s i g of).0) in
    let three : record { conn = g.conn; service = g.service; cid = i } ≡ g = ap (λ (x : ℕ). record { conn = g.conn; service = g.service; cid = x }) (sym (is_of-is s i g of).1) in
    one ∙ two ∙ three

same_conn : (a b : ℕ) → not (a == b) ≡ false → a ≡ b
same_conn a b e =
    let step : (t : Bool) → (a == b) ≡ t → not t ≡ false → a ≡ b =
    λ t. elim t as (λ t. (a == b) ≡ t → not t ≡ false → a ≡ b) [ true ↦ λ e f. eqb-true a b e | false ↦ λ e f. absurd (cc) ]
    in step (a == b) refl e

keeps_granted : (g : Grant) (conn s i : ℕ) (held : List Grant) → IsOnce held → Contains held g → (taken : Bool) → is_taken conn s i held ≡ taken → Contains (granted_last_unless taken conn s i held) g
keeps_granted g conn s i held once at true is = at
keeps_granted g conn s i held once at false is =
    let step : (b : Bool) → is_of s i g ≡ b → Contains (granted_last conn s i held) g =
    λ b. elim b as (λ b. is_of s i g ≡ b → Contains (granted_last conn s i held) g) [
      | true ↦ λ of.
          let same : g.conn ≡ conn = same_conn g.conn conn (sym (ap (is_other conn) (holder_of g s i held once at of)) ∙ is) in
          subst (λ (h : Grant). Contains (granted_last conn s i held) h) (new_is g conn s i same of) (Contains-push (filter (λ h. not (is_of s i h)) held) (record { conn = conn; service = s; cid = i }))
      | false ↦ λ of. Contains-append_left (filter (λ h. not (is_of s i h)) held) (record { conn = conn; service = s; cid = i } ∷ []) g (Contains-filter (λ h. not (is_of s i h)) held g at (ap not of))
    ]
    in step (is_of s i g) refl

keeps_held : (g : Grant) (call : Call) (past : List Call) → ends g call ≡ false → Contains (held_after past) g → Contains (held_after (call ∷ past)) g
keeps_held g (Grants conn s i) past keeps at = keeps_granted g conn s i (held_after past) (held_once past) at (is_taken conn s i (held_after past)) refl
keeps_held g (Releases conn s i) past keeps at = Contains-filter (λ h. not (is_of_both conn s i h)) (held_after past) g at (ap not keeps)
keeps_held g (Leaves conn time) past keeps at = Contains-filter (λ h. not (conn == h.conn)) (held_after past) g at (ap not keeps)
keeps_held g Clears past keeps at = absurd (cc)

since_held : (g : Grant) (later earlier : List Call) → is_taken g.conn g.service g.cid (held_after earlier) ≡ false → All (λ call. ends g call ≡ false) later
    → Contains (held_after (later ++ Grants g.conn g.service g.cid ∷ earlier)) g
since_held g [] earlier free none =
    subst (λ (b : Bool). Contains (granted_last_unless b g.conn g.service g.cid (held_after earlier)) g) (sym free) (Contains-push (filter (λ h. not (is_of g.service g.cid h)) (held_after earlier)) g)
since_held g (call ∷ later) earlier free none =
    keeps_held g call (later ++ Grants g.conn g.service g.cid ∷ earlier) (All-head (λ c. ends g c ≡ false) call later none) (since_held g later earlier free (All-tail (λ c. ends g c ≡ false) call later none))

pub held_exactly : (calls : List Call) (conn s i : ℕ) → (holder_in s i (held_after calls) ≡ Some conn) ↔ IsGrantedAndNotEnded (record { conn = conn; service = s; cid = i }) calls
held_exactly calls conn s i = (
  λ holds. held_since calls (record { conn = conn; service = s; cid = i }) (holder_contains s i conn (held_after calls) holds),
  λ since. contains_holder s i conn (held_after calls) (held_once calls)
      (subst (λ (l : List Call). Contains (held_after l) (record { conn = conn; service = s; cid = i })) (sym since.whole) (since_held (record { conn = conn; service = s; cid = i }) since.later since.earlier since.free since.none)),
)
