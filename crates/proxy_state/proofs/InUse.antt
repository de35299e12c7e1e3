-- The requests in use, each with whether its sender waits, are those of the history.
use Rattle.std.proofs.Common.{◌≡◌, ℕ, zero, suc, ◌||◌, subst, ⊎_elim, arith, All, Contains, AllPairs, Bool, true, false, not, cond, ◌&&◌, List, [], ◌∷◌, ◌++◌, map, filter, refl, ap, sym, ◌∙◌, ◌==◌}
use Rattle.std.proofs.lemmas.List.{map-append}
use Rattle.std.proofs.lemmas.List.Elements.{filter-append}
use Rattle.std.proofs.lemmas.Simd.{map-map}
use Rattle.proxy_history.specs.Facts.{Fact, Request, Ended, Forwarded, Answered, IdHeld, Late, Expired, Aborted, Reset, ModemLost}
use Rattle.proxy_history.specs.Requests.{in_use, pending, numbers_in_use}
use Rattle.number_space.specs.declared.space.Row.{Row}
use Rattle.proxy_state.specs.Requests.{RequestInUse, requests_in_use, silenced_if, row_of, rows_of}
use Rattle.proxy_state.proofs.Lists.{filter_map_is}
use Rattle.proxy_state.proofs.Filters.{AreDistinct, distinct_none, distinct_more}
use Rattle.std.specs.List.{AllByRecursion}
use Rattle.std.proofs.lemmas.Bool.{eqb-true, eq-eqb, ne_eqb, false_from_ne_true}
use Rattle.std.proofs.lemmas.List.Elements.{recursion_from_All}
use Rattle.proxy_history.specs.Requests.{has_request}
use Rattle.proxy_history.specs.Sound.{Differ}
use Rattle.proxy_history.proofs.Lists.{Contains-cons, Contains-cons_cases, Contains-nil}

abbrev pub request_in : RequestInUse → Request
request_in a = a.request

abbrev pub waits_in : RequestInUse → Bool
waits_in a = a.waits

abbrev pub waiting : List RequestInUse → List Request
waiting list = map request_in (filter waits_in list)

-- who is silenced waits no more, and all others as before
waiting_silenced : (p : Request → Bool) (list : List RequestInUse) → filter (λ r. not (p r)) (waiting list) ≡ waiting (map (λ a. silenced_if (p a.request) a) list)
waiting_silenced p [] = refl
waiting_silenced p (a ∷ list) =
    let rest : List Request = waiting (map (λ (a : RequestInUse). silenced_if (p a.request) a) list) in
    let Both : Bool → Bool → Type 0 = λ (b : Bool) (w : Bool).
    filter (λ (r : Request). not (p r)) (map request_in (cond w (a ∷ filter waits_in list) (filter waits_in list))) ≡ map request_in (cond (not b && w) (silenced_if b a ∷ filter waits_in (map (λ (a : RequestInUse). silenced_if (p a.request) a) list)) (filter waits_in (map (λ (a : RequestInUse). silenced_if (p a.request) a) list))) in
    let step : (b w : Bool) → p a.request ≡ b → Both b w =
    λ b w. elim w as (λ w. p a.request ≡ b → Both b w) [
      | true ↦ λ e. elim b as (λ b. p a.request ≡ b → Both b true) [
        | true ↦ λ e. ap (λ (t : Bool). cond (not t) (a.request ∷ filter (λ (r : Request). not (p r)) (waiting list)) (filter (λ (r : Request). not (p r)) (waiting list))) e ∙ waiting_silenced p list
        | false ↦ λ e. ap (λ (t : Bool). cond (not t) (a.request ∷ filter (λ (r : Request). not (p r)) (waiting list)) (filter (λ (r : Request). not (p r)) (waiting list))) e ∙ ap (λ (l : List Request). a.request ∷ l) (waiting_silenced p list)
      ] e
      | false ↦ λ e. elim b as (λ b. Both b false) [ true ↦ waiting_silenced p list | false ↦ waiting_silenced p list ]
    ]
    in step (p a.request) a.waits refl

waiting_filtered : (p : Request → Bool) (list : List RequestInUse) → filter p (waiting list) ≡ waiting (filter (λ a. p a.request) list)
waiting_filtered p [] = refl
waiting_filtered p (a ∷ list) =
    let Both : Bool → Bool → Type 0 = λ (b : Bool) (w : Bool).
    filter p (map request_in (cond w (a ∷ filter waits_in list) (filter waits_in list))) ≡ map request_in (filter waits_in (cond b (a ∷ filter (λ (a : RequestInUse). p a.request) list) (filter (λ (a : RequestInUse). p a.request) list))) in
    let step : (b w : Bool) → p a.request ≡ b → a.waits ≡ w → Both b w =
    λ b w. elim b as (λ b. p a.request ≡ b → a.waits ≡ w → Both b w) [
      | true ↦ λ e f. elim w as (λ w. a.waits ≡ w → Both true w) [
        | true ↦ λ f. ap (λ (t : Bool). cond t (a.request ∷ filter p (waiting list)) (filter p (waiting list))) e ∙ ap (λ (l : List Request). a.request ∷ l) (waiting_filtered p list)
            ∙ ap (λ (t : Bool). map request_in (cond t (a ∷ filter waits_in (filter (λ (a : RequestInUse). p a.request) list)) (filter waits_in (filter (λ (a : RequestInUse). p a.request) list)))) (sym f)
        | false ↦ λ f. waiting_filtered p list ∙ ap (λ (t : Bool). map request_in (cond t (a ∷ filter waits_in (filter (λ (a : RequestInUse). p a.request) list)) (filter waits_in (filter (λ (a : RequestInUse). p a.request) list)))) (sym f)
      ] f
      | false ↦ λ e f. elim w as (λ w. Both false w) [
        | true ↦ ap (λ (t : Bool). cond t (a.request ∷ filter p (waiting list)) (filter p (waiting list))) e ∙ waiting_filtered p list
        | false ↦ waiting_filtered p list
      ]
    ]
    in step (p a.request) a.waits refl refl

silenced_requests : (p : RequestInUse → Bool) (list : List RequestInUse) → map request_in list ≡ map request_in (map (λ a. silenced_if (p a) a) list)
silenced_requests p list = sym (map-map request_in (λ (a : RequestInUse). silenced_if (p a) a) list)

pub in_use_is : (past : List Fact) → in_use past ≡ map request_in (requests_in_use past)
unfolding in_use requests_in_use
in_use_is [] = refl
in_use_is (Forwarded r ∷ past) = ap (λ (l : List Request). l ++ r ∷ []) (in_use_is past) ∙ sym (map-append request_in (requests_in_use past) (record { request = r; waits = true } ∷ []))
in_use_is (Answered r m ∷ past) = ap (filter (λ (q : Request). not (r.serial == q.serial))) (in_use_is past) ∙ filter_map_is (λ (q : Request). not (r.serial == q.serial)) request_in (requests_in_use past)
in_use_is (IdHeld r ∷ past) = ap (filter (λ (q : Request). not (r.serial == q.serial))) (in_use_is past) ∙ filter_map_is (λ (q : Request). not (r.serial == q.serial)) request_in (requests_in_use past)
in_use_is (Late r ∷ past) = ap (filter (λ (q : Request). not (r.serial == q.serial))) (in_use_is past) ∙ filter_map_is (λ (q : Request). not (r.serial == q.serial)) request_in (requests_in_use past)
in_use_is (Expired r ∷ past) = in_use_is past ∙ silenced_requests (λ (a : RequestInUse). r.serial == a.request.serial) (requests_in_use past)
in_use_is (Aborted r ∷ past) = in_use_is past ∙ silenced_requests (λ (a : RequestInUse). r.serial == a.request.serial) (requests_in_use past)
in_use_is (Ended c why ∷ past) = in_use_is past ∙ silenced_requests (λ (a : RequestInUse). c == a.request.conn) (requests_in_use past)
in_use_is (Reset ∷ past) = refl
in_use_is (ModemLost ∷ past) = refl
in_use_is (_ ∷ past) = in_use_is past

pub pending_is : (past : List Fact) → pending past ≡ waiting (requests_in_use past)
unfolding pending requests_in_use
pending_is [] = refl
pending_is (Forwarded r ∷ past) =
    ap (λ (l : List Request). l ++ r ∷ []) (pending_is past) ∙ sym (map-append request_in (filter waits_in (requests_in_use past)) (record { request = r; waits = true } ∷ []))
    ∙ ap (map request_in) (sym (filter-append waits_in (requests_in_use past) (record { request = r; waits = true } ∷ [])))
pending_is (Answered r m ∷ past) = ap (filter (λ (q : Request). not (r.serial == q.serial))) (pending_is past) ∙ waiting_filtered (λ (q : Request). not (r.serial == q.serial)) (requests_in_use past)
pending_is (IdHeld r ∷ past) = ap (filter (λ (q : Request). not (r.serial == q.serial))) (pending_is past) ∙ waiting_filtered (λ (q : Request). not (r.serial == q.serial)) (requests_in_use past)
pending_is (Late r ∷ past) = ap (filter (λ (q : Request). not (r.serial == q.serial))) (pending_is past) ∙ waiting_filtered (λ (q : Request). not (r.serial == q.serial)) (requests_in_use past)
pending_is (Expired r ∷ past) = ap (filter (λ (q : Request). not (r.serial == q.serial))) (pending_is past) ∙ waiting_silenced (λ (q : Request). r.serial == q.serial) (requests_in_use past)
pending_is (Aborted r ∷ past) = ap (filter (λ (q : Request). not (r.serial == q.serial))) (pending_is past) ∙ waiting_silenced (λ (q : Request). r.serial == q.serial) (requests_in_use past)
pending_is (Ended c why ∷ past) = ap (filter (λ (q : Request). not (c == q.conn))) (pending_is past) ∙ waiting_silenced (λ (q : Request). c == q.conn) (requests_in_use past)
pending_is (Reset ∷ past) = refl
pending_is (ModemLost ∷ past) = refl
pending_is (_ ∷ past) = pending_is past

contains_map : {X Y : Type 0} (f : X → Y) (xs : List X) (x : X) → Contains xs x → Contains (map f xs) (f x)
contains_map f [] x at = absurd (Contains-nil x at)
contains_map {Y = Y} f (y ∷ xs) x at =
    ⊎_elim
    (λ (is : y ≡ x). let P : Y → Type 0 = λ (z : Y). Contains (z ∷ map f xs) (f x) in subst P (sym (ap f is)) (zero, omega arith, refl))
    (λ (later : Contains xs x). Contains-cons (f x) (f y) (map f xs) (contains_map f xs x later)) (Contains-cons_cases x y xs at)

pub request_in_use : (past : List Fact) (a : RequestInUse) → Contains (requests_in_use past) a → Contains (in_use past) a.request
request_in_use past a at = subst (λ (l : List Request). Contains l a.request) (sym (in_use_is past)) (contains_map request_in (requests_in_use past) a at)

-- the numbers of a space's rows are those in use
pub numbers_used : {N : Type 0} (note : List ℕ → N) (space : ℕ) (past : List Fact) → map (λ row. row.number) (rows_of note space (requests_in_use past)) ≡ numbers_in_use space past
numbers_used {N} note space past =
    map-map (λ (row : Row N). row.number) (row_of note) (filter (λ (a : RequestInUse). a.request.space == space) (requests_in_use past))
    ∙ sym (map-map (λ (r : Request). r.number) request_in (filter (λ (a : RequestInUse). a.request.space == space) (requests_in_use past)))
    ∙ ap (map (λ (r : Request). r.number)) (sym (filter_map_is (λ (r : Request). r.space == space) request_in (requests_in_use past)))
    ∙ ap (λ (l : List Request). map (λ (r : Request). r.number) (filter (λ (r : Request). r.space == space) l)) (sym (in_use_is past))

pub all_map : {X Y : Type 0} (P : Y → Type 0) (f : X → Y) (xs : List X) → AllByRecursion P (map f xs) → AllByRecursion (λ x. P (f x)) xs
all_map P f [] all = tt
all_map P f (x ∷ xs) all = (all.0, all_map P f xs all.1)

-- ---- no two of the requests in use are alike ----

pub head_all : {X : Type 0} (R : X → X → Type 0) (x : X) (xs : List X) → AllPairs R (x ∷ xs) → All (R x) xs
head_all R x xs all = λ k d within. all 0 (suc k) d (omega arith) (omega arith)

pub tail_pairs : {X : Type 0} (R : X → X → Type 0) (x : X) (xs : List X) → AllPairs R (x ∷ xs) → AllPairs R xs
tail_pairs R x xs all = λ i j d before within. all (suc i) (suc j) d (omega arith) (omega arith)

unfoldable pub AreDifferent : List RequestInUse → Type 0
AreDifferent [] = Unit {0}
AreDifferent (a ∷ list) = AllByRecursion (λ (b : RequestInUse). Differ a.request b.request) list × AreDifferent list

pub different_from : (list : List RequestInUse) → AllPairs Differ (map request_in list) → AreDifferent list
unfolding AreDifferent
different_from [] pairs = tt
different_from (a ∷ list) pairs =
    (all_map (Differ a.request) request_in list (recursion_from_All (Differ a.request) (map request_in list) (head_all Differ a.request (map request_in list) pairs)), different_from list (tail_pairs Differ a.request (map request_in list) pairs))

-- ---- whether the sender waits ----

none_has : (r : Request) (list : List RequestInUse) → AllByRecursion (λ (b : RequestInUse). Differ r b.request) list → has_request r (waiting list) ≡ false
none_has r [] all = refl
none_has r (b ∷ list) all =
    let differs : (r.serial == b.request.serial) ≡ false = false_from_ne_true (r.serial == b.request.serial) (λ e. all.0.0 (eqb-true r.serial b.request.serial e)) in
    elim b.waits as (λ w. has_request r (map request_in (cond w (b ∷ filter waits_in list) (filter waits_in list))) ≡ false) [
      | true ↦ ap (λ (t : Bool). t || has_request r (waiting list)) differs ∙ none_has r list all.1
      | false ↦ none_has r list all.1
    ]

pub waits_flag : (list : List RequestInUse) (a : RequestInUse) → AreDifferent list → Contains list a → has_request a.request (waiting list) ≡ a.waits
unfolding AreDifferent
waits_flag [] a different at = absurd (Contains-nil a at)
waits_flag (b ∷ list) a different at =
    ⊎_elim
    (λ (is : b ≡ a). subst (λ (x : RequestInUse). has_request x.request (map request_in (cond b.waits (b ∷ filter waits_in list) (filter waits_in list))) ≡ x.waits) is
    (elim b.waits as (λ w. has_request b.request (map request_in (cond w (b ∷ filter waits_in list) (filter waits_in list))) ≡ w) [
      | true ↦ ap (λ (t : Bool). t || has_request b.request (waiting list)) (eq-eqb b.request.serial b.request.serial refl)
      | false ↦ none_has b.request list different.0
    ]))
    (λ (later : Contains list a).
    let apart : Differ b.request a.request = by_place list later different.0 in
    let differs : (a.request.serial == b.request.serial) ≡ false = false_from_ne_true (a.request.serial == b.request.serial) (λ e. apart.0 (sym (eqb-true a.request.serial b.request.serial e))) in
    elim b.waits as (λ w. has_request a.request (map request_in (cond w (b ∷ filter waits_in list) (filter waits_in list))) ≡ a.waits) [
      | true ↦ ap (λ (t : Bool). t || has_request a.request (waiting list)) differs ∙ waits_flag list a different.1 later
      | false ↦ waits_flag list a different.1 later
    ])
    (Contains-cons_cases a b list at)
  where
    by_place : (others : List RequestInUse) → Contains others a → AllByRecursion (λ (c : RequestInUse). Differ b.request c.request) others → Differ b.request a.request
    by_place [] at all = absurd (Contains-nil a at)
    by_place (c ∷ others) at all = ⊎_elim (λ (is : c ≡ a). subst (λ (x : RequestInUse). Differ b.request x.request) is all.0) (λ (rest : Contains others a). by_place others rest all.1) (Contains-cons_cases a c others at)

-- ---- those that wait are told apart ----

pub distinct_waiting : (list : List RequestInUse) → AreDifferent list → AreDistinct (waiting list)
unfolding AreDifferent
distinct_waiting [] different = distinct_none
distinct_waiting (a ∷ list) different =
    let rest = distinct_waiting list different.1 in
    elim a.waits as (λ w. AreDistinct (map request_in (cond w (a ∷ filter waits_in list) (filter waits_in list)))) [
      | true ↦ distinct_more a.request (waiting list) (others list different.0) rest
      | false ↦ rest
    ]
  where
    others : (list : List RequestInUse) → AllByRecursion (λ (b : RequestInUse). Differ a.request b.request) list → AllByRecursion (λ (q : Request). (a.request.serial == q.serial) ≡ false) (waiting list)
    others [] all = tt
    others (b ∷ list) all =
        elim b.waits as (λ w. AllByRecursion (λ (q : Request). (a.request.serial == q.serial) ≡ false) (map request_in (cond w (b ∷ filter waits_in list) (filter waits_in list)))) [
          | true ↦ (ne_eqb a.request.serial b.request.serial all.0.0, others list all.1)
          | false ↦ others list all.1
        ]
