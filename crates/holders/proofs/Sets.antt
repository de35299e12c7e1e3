-- Two lists of grants that tell the same, the one in the order of granting and the other in the order of the ids.
use Rattle.std.proofs.Common.{◌≡◌, ℕ, Bool, true, false, not, cond, ◌&&◌, ◌||◌, List, [], ◌∷◌, ◌++◌, filter, refl, ap, sym, ◌∙◌, arith, Option, Some, None, ⊎_elim, subst, Contains, ◌==◌}
use Rattle.std.specs.List.{AllByRecursion}
use Rattle.std.proofs.lemmas.Bool.Decides.{nat_tests}
use Rattle.std.proofs.lemmas.List.Elements.{Contains-append_left, Contains-append_right, Contains-append_cases, Contains-push}
use Rattle.std.proofs.lemmas.Bool.{not-true, true≢false, or_right}
use Rattle.kit_bytes.proofs.Lists.{all_weaker, all_filter}
use Rattle.proxy_history.specs.ClientIds.{Grant, is_of, holder_in, holds_some, is_other}
use Rattle.proxy_history.proofs.Lists.{Contains-nil, Contains-cons, Contains-cons_cases, Contains-filter, Contains-filter_from, Contains-filter_passes}
use Rattle.kit_bytes.specs.Sorted.{IsInOrder}
use Rattle.holders.specs.Grants.{is_before, is_behind, is_of_service, AreInOrder, granted, is_taken}
use Rattle.holders.specs.Kept.{Ids, held_by, held_unless}
use Rattle.holders.specs.Calls.{IsOnce, TellTheSame, granted_last, granted_last_unless}
use Rattle.holders.proofs.Order.{before_not_of, behind_not_of, behind_else, is_of-is}

-- ---- each id once ----

pub once_filter : (p : Grant → Bool) (xs : List Grant) → IsOnce xs → IsOnce (filter p xs)
unfolding IsOnce
once_filter p [] once = tt
once_filter p (g ∷ xs) once =
    elim (p g) as (λ b. IsOnce (cond b (g ∷ filter p xs) (filter p xs))) [
      | true ↦ (all_filter (λ h. is_of g.service g.cid h ≡ false) p xs once.0, once_filter p xs once.1)
      | false ↦ once_filter p xs once.1
    ]

others_push : (g new : Grant) (xs : List Grant) → is_of g.service g.cid new ≡ false → AllByRecursion (λ h. is_of g.service g.cid h ≡ false) xs → AllByRecursion (λ h. is_of g.service g.cid h ≡ false) (xs ++ new ∷ [])
others_push g new [] other all = (other, tt)
others_push g new (h ∷ xs) other all = (all.0, others_push g new xs other all.1)

once_push : (new : Grant) (xs : List Grant) → AllByRecursion (λ g. is_of g.service g.cid new ≡ false) xs → IsOnce xs → IsOnce (xs ++ new ∷ [])
unfolding IsOnce
once_push new [] others once = (tt, tt)
once_push new (g ∷ xs) others once = (others_push g new xs others.0 once.0, once_push new xs others.1 once.1)

pub in_order_once : (xs : List Grant) → AreInOrder xs → IsOnce xs
unfolding IsInOrder IsOnce
in_order_once [] ordered = tt
in_order_once (g ∷ xs) ordered =
    (all_weaker (λ h. is_behind g.service g.cid h ≡ true) (λ h. is_of g.service g.cid h ≡ false) (λ h behind. behind_not_of g.service g.cid h behind) xs ordered.0, in_order_once xs ordered.1)

filter_others : (s i : ℕ) (xs : List Grant) → AllByRecursion (λ g. is_of s i g ≡ false) (filter (λ g. not (is_of s i g)) xs)
filter_others s i [] = tt
filter_others s i (g ∷ xs) =
    let step : (b : Bool) → is_of s i g ≡ b → AllByRecursion (λ g. is_of s i g ≡ false) (cond (not b) (g ∷ filter (λ g. not (is_of s i g)) xs) (filter (λ g. not (is_of s i g)) xs)) =
    λ b. elim b as (λ b. is_of s i g ≡ b → AllByRecursion (λ g. is_of s i g ≡ false) (cond (not b) (g ∷ filter (λ g. not (is_of s i g)) xs) (filter (λ g. not (is_of s i g)) xs))) [
      | true ↦ λ e. filter_others s i xs
      | false ↦ λ e. (e, filter_others s i xs)
    ]
    in step (is_of s i g) refl

-- ---- the same grants ----

pub same_none : TellTheSame [] []
unfolding IsOnce
same_none = record { same = λ g. (λ at. at, λ at. at); once = tt }

pub same_filter : (p : Grant → Bool) (xs ys : List Grant) → TellTheSame xs ys → TellTheSame (filter p xs) (filter p ys)
same_filter p xs ys tell = record {
  same = λ g. (
    λ at. Contains-filter p ys g ((tell.same g).0 (Contains-filter_from p xs g at)) (Contains-filter_passes p xs g at),
    λ at. Contains-filter p xs g ((tell.same g).1 (Contains-filter_from p ys g at)) (Contains-filter_passes p ys g at),
  );
  once = once_filter p xs tell.once;
}

last_to_order : (conn s i : ℕ) (xs ys : List Grant) → ((g : Grant) → Contains xs g → Contains ys g) → (g : Grant) → Contains (granted_last conn s i xs) g → Contains (granted conn s i ys) g
last_to_order conn s i xs ys same g at =
    ⊎_elim
    (λ (old : Contains (filter (λ h. not (is_of s i h)) xs) g).
    let here : Contains ys g = same g (Contains-filter_from (λ h. not (is_of s i h)) xs g old) in
    let other : is_of s i g ≡ false = not-true (is_of s i g) (Contains-filter_passes (λ h. not (is_of s i h)) xs g old) in
    let sides : (b : Bool) → is_before s i g ≡ b → Contains (granted conn s i ys) g =
    λ b. elim b as (λ b. is_before s i g ≡ b → Contains (granted conn s i ys) g) [
      | true ↦ λ e. Contains-append_left (filter (is_before s i) ys) _ g (Contains-filter (is_before s i) ys g here e)
      | false ↦ λ e. Contains-append_right (filter (is_before s i) ys) _ g (Contains-cons g _ _ (Contains-filter (is_behind s i) ys g here (behind_else s i g e other)))
    ]
    in sides (is_before s i g) refl)
    (λ (new : Contains (record { conn = conn; service = s; cid = i } ∷ []) g).
    ⊎_elim
    (λ (is : record { conn = conn; service = s; cid = i } ≡ g).
    subst (λ (h : Grant). Contains (granted conn s i ys) h) is (Contains-append_right (filter (is_before s i) ys) (record { conn = conn; service = s; cid = i } ∷ filter (is_behind s i) ys) (record { conn = conn; service = s; cid = i }) (0, omega arith, refl)))
    (λ (none : Contains [] g). absurd (Contains-nil g none))
    (Contains-cons_cases g (record { conn = conn; service = s; cid = i }) [] new))
    (Contains-append_cases (filter (λ h. not (is_of s i h)) xs) (record { conn = conn; service = s; cid = i } ∷ []) g at)

order_to_last : (conn s i : ℕ) (xs ys : List Grant) → ((g : Grant) → Contains ys g → Contains xs g) → (g : Grant) → Contains (granted conn s i ys) g → Contains (granted_last conn s i xs) g
order_to_last conn s i xs ys same g at =
    let kept : Contains ys g → is_of s i g ≡ false → Contains (granted_last conn s i xs) g =
    λ here other. Contains-append_left (filter (λ h. not (is_of s i h)) xs) _ g (Contains-filter (λ h. not (is_of s i h)) xs g (same g here) (ap not other))
    in
    ⊎_elim
    (λ (left : Contains (filter (is_before s i) ys) g). kept (Contains-filter_from (is_before s i) ys g left) (before_not_of s i g (Contains-filter_passes (is_before s i) ys g left)))
    (λ (right : Contains (record { conn = conn; service = s; cid = i } ∷ filter (is_behind s i) ys) g).
    ⊎_elim
    (λ (is : record { conn = conn; service = s; cid = i } ≡ g). subst (λ (h : Grant). Contains (granted_last conn s i xs) h) is (Contains-push (filter (λ h. not (is_of s i h)) xs) (record { conn = conn; service = s; cid = i })))
    (λ (rest : Contains (filter (is_behind s i) ys) g). kept (Contains-filter_from (is_behind s i) ys g rest) (behind_not_of s i g (Contains-filter_passes (is_behind s i) ys g rest)))
    (Contains-cons_cases g (record { conn = conn; service = s; cid = i }) (filter (is_behind s i) ys) right))
    (Contains-append_cases (filter (is_before s i) ys) (record { conn = conn; service = s; cid = i } ∷ filter (is_behind s i) ys) g at)

flipped : (s i : ℕ) (g : Grant) → is_of s i g ≡ false → (s == g.service && (i == g.cid)) ≡ false
flipped s i g other = grind (arith, nat_tests, other)

pub once_granted : (conn s i : ℕ) (xs : List Grant) → IsOnce xs → IsOnce (granted_last conn s i xs)
once_granted conn s i xs once =
    once_push (record { conn = conn; service = s; cid = i }) (filter (λ g. not (is_of s i g)) xs)
    (all_weaker (λ g. is_of s i g ≡ false) (λ g. (s == g.service && (i == g.cid)) ≡ false) (λ g other. flipped s i g other) (filter (λ g. not (is_of s i g)) xs) (filter_others s i xs))
    (once_filter (λ g. not (is_of s i g)) xs once)

-- granting, in either order
pub same_granted : (conn s i : ℕ) (xs ys : List Grant) → TellTheSame xs ys → TellTheSame (granted_last conn s i xs) (granted conn s i ys)
same_granted conn s i xs ys tell = record {
  same = λ g. (last_to_order conn s i xs ys (λ h. (tell.same h).0) g, order_to_last conn s i xs ys (λ h. (tell.same h).1) g);
  once = once_granted conn s i xs tell.once;
}

-- ---- what is asked of them ----

pub holder_contains : (s i conn : ℕ) (xs : List Grant) → holder_in s i xs ≡ Some conn → Contains xs (record { conn = conn; service = s; cid = i })
holder_contains s i conn [] e = absurd (cc)
holder_contains s i conn (g ∷ xs) e =
    let step : (b : Bool) → is_of s i g ≡ b → cond b (Some g.conn) (holder_in s i xs) ≡ Some conn → Contains (g ∷ xs) (record { conn = conn; service = s; cid = i }) =
    λ b. elim b as (λ b. is_of s i g ≡ b → cond b (Some g.conn) (holder_in s i xs) ≡ Some conn → Contains (g ∷ xs) (record { conn = conn; service = s; cid = i })) [
      | true ↦ λ of e.
          let same : g.conn ≡ conn = cc in
          (0, omega arith, is_grant conn s i g same (is_of-is s i g of).0 (is_of-is s i g of).1)
      | false ↦ λ of e. Contains-cons (record { conn = conn; service = s; cid = i }) g xs (holder_contains s i conn xs e)
    ]
    in step (is_of s i g) refl e
  where
    is_grant : (conn s i : ℕ) (g : Grant) → g.conn ≡ conn → g.service ≡ s → g.cid ≡ i → g ≡ record { conn = conn; service = s; cid = i }
    is_grant conn s i g a b c =
        let one : g ≡ record { conn = conn; service = g.service; cid = g.cid } = ap (λ (x : ℕ). record { conn = x; service = g.service; cid = g.cid }) a in
        let two : record { conn = conn; service = g.service; cid = g.cid } ≡ record { conn = conn; service = s; cid = g.cid } = ap (λ (x : ℕ). record { conn = conn; service = x; cid = g.cid }) b in
        let three : record { conn = conn; service = s; cid = g.cid } ≡ record { conn = conn; service = s; cid = i } = ap (λ (x : ℕ). record { conn = conn; service = s; cid = x }) c in
        one ∙ two ∙ three

equal_of : (s i : ℕ) → (s == s && (i == i)) ≡ true
equal_of s i = grind (arith, nat_tests)

not_there : (s i conn : ℕ) (xs : List Grant) → AllByRecursion (λ h. is_of s i h ≡ false) xs → Contains xs (record { conn = conn; service = s; cid = i }) → ⊥
not_there s i conn [] others at = Contains-nil _ at
not_there s i conn (g ∷ xs) others at =
    ⊎_elim
    (λ (is : g ≡ record { conn = conn; service = s; cid = i }). let clash : true ≡ false = sym (equal_of s i) ∙ sym (ap (is_of s i) is) ∙ others.0 in true≢false clash)
    (λ (rest : Contains xs (record { conn = conn; service = s; cid = i })). not_there s i conn xs others.1 rest)
    (Contains-cons_cases (record { conn = conn; service = s; cid = i }) g xs at)

pub contains_holder : (s i conn : ℕ) (xs : List Grant) → IsOnce xs → Contains xs (record { conn = conn; service = s; cid = i }) → holder_in s i xs ≡ Some conn
unfolding IsOnce
contains_holder s i conn [] once at = absurd (Contains-nil _ at)
contains_holder s i conn (g ∷ xs) once at =
    ⊎_elim
    (λ (is : g ≡ record { conn = conn; service = s; cid = i }). ap (λ (h : Grant). cond (is_of s i h) (Some h.conn) (holder_in s i xs)) is ∙ ap (λ b. cond b (Some conn) (holder_in s i xs)) (equal_of s i))
    (λ (rest : Contains xs (record { conn = conn; service = s; cid = i })).
    let step : (b : Bool) → is_of s i g ≡ b → cond b (Some g.conn) (holder_in s i xs) ≡ Some conn =
    λ b. elim b as (λ b. is_of s i g ≡ b → cond b (Some g.conn) (holder_in s i xs) ≡ Some conn) [
      | true ↦ λ of. absurd (not_there s i conn xs (others_of g s i xs of once.0) rest)
      | false ↦ λ of. contains_holder s i conn xs once.1 rest
    ]
    in step (is_of s i g) refl)
    (Contains-cons_cases (record { conn = conn; service = s; cid = i }) g xs at)
  where
    others_of : (g : Grant) (s i : ℕ) (xs : List Grant) → is_of s i g ≡ true → AllByRecursion (λ h. is_of g.service g.cid h ≡ false) xs → AllByRecursion (λ h. is_of s i h ≡ false) xs
    others_of g s i xs of others =
        subst (λ (t : ℕ). AllByRecursion (λ h. is_of t i h ≡ false) xs) (is_of-is s i g of).0 (subst (λ (u : ℕ). AllByRecursion (λ h. is_of g.service u h ≡ false) xs) (is_of-is s i g of).1 others)

pub same_holder : (s i : ℕ) (xs ys : List Grant) → TellTheSame xs ys → AreInOrder ys → holder_in s i ys ≡ holder_in s i xs
same_holder s i xs ys tell ordered = both (holder_in s i ys) (holder_in s i xs) refl refl
  where
    both : (a b : Option ℕ) → holder_in s i ys ≡ a → holder_in s i xs ≡ b → holder_in s i ys ≡ holder_in s i xs
    both (Some conn) b e f = e ∙ sym (contains_holder s i conn xs tell.once ((tell.same _).1 (holder_contains s i conn ys e)))
    both None (Some conn) e f = contains_holder s i conn ys (in_order_once ys ordered) ((tell.same _).0 (holder_contains s i conn xs f)) ∙ sym f
    both None None e f = e ∙ sym f

some_contains : (conn s : ℕ) (xs : List Grant) → holds_some conn s xs ≡ true → (g : Grant) × (is_of_service conn s g ≡ true) × Contains xs g
some_contains conn s [] e = absurd (cc)
some_contains conn s (g ∷ xs) e =
    let step : (b : Bool) → is_of_service conn s g ≡ b → (b || holds_some conn s xs) ≡ true → (h : Grant) × (is_of_service conn s h ≡ true) × Contains (g ∷ xs) h =
    λ b. elim b as (λ b. is_of_service conn s g ≡ b → (b || holds_some conn s xs) ≡ true → (h : Grant) × (is_of_service conn s h ≡ true) × Contains (g ∷ xs) h) [
      | true ↦ λ of e. (g, of, (0, omega arith, refl))
      | false ↦ λ of e. let rest = some_contains conn s xs e in (rest.0, rest.1, Contains-cons rest.0 g xs rest.2)
    ]
    in step (is_of_service conn s g) refl e

contains_some : (conn s : ℕ) (xs : List Grant) (g : Grant) → is_of_service conn s g ≡ true → Contains xs g → holds_some conn s xs ≡ true
contains_some conn s [] g of at = absurd (Contains-nil g at)
contains_some conn s (h ∷ xs) g of at =
    ⊎_elim
    (λ (is : h ≡ g). ap (λ (k : Grant). is_of_service conn s k || holds_some conn s xs) is ∙ ap (λ b. b || holds_some conn s xs) of)
    (λ (rest : Contains xs g). or_right (is_of_service conn s h) (holds_some conn s xs) (contains_some conn s xs g of rest))
    (Contains-cons_cases g h xs at)

pub same_some : (conn s : ℕ) (xs ys : List Grant) → TellTheSame xs ys → holds_some conn s ys ≡ holds_some conn s xs
same_some conn s xs ys tell = both (holds_some conn s ys) (holds_some conn s xs) refl refl
  where
    both : (a b : Bool) → holds_some conn s ys ≡ a → holds_some conn s xs ≡ b → holds_some conn s ys ≡ holds_some conn s xs
    both true b e f = let some = some_contains conn s ys e in e ∙ sym (contains_some conn s xs some.0 some.1 ((tell.same some.0).1 some.2))
    both false true e f = let some = some_contains conn s xs f in contains_some conn s ys some.0 some.1 ((tell.same some.0).0 some.2) ∙ sym f
    both false false e f = e ∙ sym f

-- a grant that may be refused
pub same_held_by : (conn s i : ℕ) (xs : List Grant) (ids new : Ids) → new ≡ held_by conn s i ids → AreInOrder ids.held → TellTheSame xs ids.held → TellTheSame (granted_last_unless (is_taken conn s i xs) conn s i xs) new.held
same_held_by conn s i xs ids new is ordered tell =
    let taken : is_taken conn s i ids.held ≡ is_taken conn s i xs = ap (is_other conn) (same_holder s i xs ids.held tell ordered) in
    subst (λ (v : Ids). TellTheSame (granted_last_unless (is_taken conn s i xs) conn s i xs) v.held) (sym is)
    (subst (λ (b : Bool). TellTheSame (granted_last_unless b conn s i xs) (held_by conn s i ids).held) taken (either (is_taken conn s i ids.held)))
  where
    either : (b : Bool) → TellTheSame (granted_last_unless b conn s i xs) (held_unless b conn s i ids).held
    either true = tell
    either false = same_granted conn s i xs ids.held tell
