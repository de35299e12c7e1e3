-- Requests that wait among those that are in use, and what of them expires. Lists of facts have the newest first.
use Rattle.std.proofs.Common.{◌≡◌, ℕ, ◌+◌, Bool, true, false, not, cond, ◌&&◌, ◌||◌, ◌==◌, if◌then◌else◌, List, [], ◌∷◌, length, filter, refl, ap, sym, ◌∙◌, arith, AllPairs}
use Rattle.std.specs.List.{AllByRecursion}
use Rattle.std.proofs.lemmas.Bool.{eqb-true, false_from_ne_true}
use Rattle.std.proofs.lemmas.List.Elements.{recursion_from_All}
use Rattle.kit_bytes.proofs.Lists.{all_weaker, all_filter}
use Rattle.proxy_history.specs.Facts.{Fact, Request, Expired}
use Rattle.proxy_history.specs.Requests.{pending, is_pending, has_request, without_request}
use Rattle.proxy_history.specs.Noting.{each_pending}
use Rattle.proxy_history.specs.Sound.{Differ}
use Rattle.proxy_history.proofs.Given.{head_all, tail_pairs}
use Rattle.proxy_solo.proofs.Lists.{every, turned}
use Rattle.proxy_state.proofs.Filters as filters
use Rattle.proxy_state.proofs.Filters.{filter_agree, has_passing}
use Rattle.rig_runs.specs.Counts.{count, is_expired}
use Rattle.rig_laws.proofs.Lists.{filter-all}
use Rattle.rig_laws_mbim.proofs.Adding.{expired_by}
use Rattle.rig_trace.proofs.Requests.{distinct}

-- ---- filters ----

module _ {X : Type 0} where
  -- one test and then another
  pub filter_both : (p q s : X → Bool) → ((x : X) → s x ≡ (q x && p x)) → (xs : List X) → filter p (filter q xs) ≡ filter s xs
  filter_both p q s same xs = filters.filter_both p q xs ∙ filter_agree (λ (x : X). q x && p x) s xs (every (λ (x : X). (q x && p x) ≡ s x) (λ x. sym (same x)) xs)

  all_both : (P Q R : X → Type 0) → ((x : X) → P x → Q x → R x) → (xs : List X) → AllByRecursion P xs → AllByRecursion Q xs → AllByRecursion R xs
  all_both P Q R gives [] one other = tt
  all_both P Q R gives (x ∷ xs) one other = (gives x one.0 other.0, all_both P Q R gives xs one.1 other.1)

-- ---- requests that differ ----

-- their serial numbers do
abbrev IsApart : Request → Request → Type 0
IsApart r q = ((r.serial == q.serial) ≡ false) × ((q.serial == r.serial) ≡ false)

apart : (r q : Request) → Differ r q → IsApart r q
apart r q differ = (false_from_ne_true (r.serial == q.serial) (λ e. differ.0 (eqb-true r.serial q.serial e)), false_from_ne_true (q.serial == r.serial) (λ e. differ.0 (sym (eqb-true q.serial r.serial e))))

apart_from_first : (r : Request) (requests : List Request) → AllPairs Differ (r ∷ requests) → AllByRecursion (IsApart r) requests
apart_from_first r requests pairs = all_weaker (Differ r) (IsApart r) (apart r) requests (recursion_from_All (Differ r) requests (head_all Differ r requests pairs))

-- a request is among those that pass a test where it passes itself
pub passes_among : (p : Request → Bool) (requests : List Request) → AllPairs Differ requests → AllByRecursion (λ q. has_request q (filter p requests) ≡ p q) requests
passes_among p requests pairs =
    all_weaker (λ (q : Request). p q ≡ has_request q (filter p requests)) (λ (q : Request). has_request q (filter p requests) ≡ p q) (λ q is. sym is) requests (has_passing p requests (distinct requests pairs))

still_among : (q r : Request) → IsApart r q → (requests : List Request) → has_request q (without_request r requests) ≡ has_request q requests
still_among q r is [] = refl
still_among q r is (x ∷ requests) = by (still_among q r is requests) (r.serial == x.serial) refl
  where
    by : has_request q (without_request r requests) ≡ has_request q requests → (b : Bool) → (r.serial == x.serial) ≡ b
        → has_request q (cond (not b) (x ∷ without_request r requests) (without_request r requests)) ≡ (q.serial == x.serial || has_request q requests)
    by rest true e =
        let same : r.serial ≡ x.serial = eqb-true r.serial x.serial e in
        let other : (q.serial == x.serial) ≡ false = ap (λ (n : ℕ). q.serial == n) (sym same) ∙ is.1 in
        rest ∙ sym (ap (λ (t : Bool). t || has_request q requests) other)
    by rest false e = ap (λ (t : Bool). q.serial == x.serial || t) rest

-- ---- requests that expire ----

abbrev pub expired_onto : List Request → List Fact → List Fact
expired_onto [] past = past
expired_onto (r ∷ requests) past = expired_onto requests (Expired r ∷ past)

-- where each of them waits, each expires
pub each_expires : (requests : List Request) (past : List Fact) → AllPairs Differ requests → AllByRecursion (λ r. is_pending r past ≡ true) requests → expired_by requests past ≡ expired_onto requests past
unfolding each_pending pending
each_expires [] past pairs all = refl
each_expires (r ∷ requests) past pairs all =
    let still : AllByRecursion (λ q. is_pending q (Expired r ∷ past) ≡ true) requests =
    all_both (IsApart r) (λ q. is_pending q past ≡ true) (λ q. is_pending q (Expired r ∷ past) ≡ true) (λ q is waits. still_among q r is (pending past) ∙ waits) requests (apart_from_first r requests pairs) all.1 in
    ap (λ (b : Bool). expired_by requests (if b then Expired r ∷ past else past)) all.0 ∙ each_expires requests (Expired r ∷ past) (tail_pairs Differ r requests pairs) still

abbrev without_all : List Request → List Request → List Request
without_all [] requests = requests
without_all (r ∷ gone) requests = without_all gone (without_request r requests)

expired_pending : (gone : List Request) (past : List Fact) → pending (expired_onto gone past) ≡ without_all gone (pending past)
unfolding pending
expired_pending [] past = refl
expired_pending (r ∷ gone) past = expired_pending gone (Expired r ∷ past)

not_either : (a b c : Bool) → a ≡ c → not (c || b) ≡ (not a && not b)
not_either true b true e = refl
not_either false b false e = refl
not_either true b false e = absurd (cc)
not_either false b true e = absurd (cc)

without_all_is : (gone requests : List Request) → without_all gone requests ≡ filter (λ q. not (has_request q gone)) requests
without_all_is [] requests = sym (filter-all (λ (q : Request). true) requests (every (λ (q : Request). true ≡ true) (λ q. refl) requests))
without_all_is (r ∷ gone) requests =
    without_all_is gone (without_request r requests)
    ∙ filter_both (λ (q : Request). not (has_request q gone)) (λ (q : Request). not (r.serial == q.serial)) (λ (q : Request). not (has_request q (r ∷ gone))) (λ q. not_either (r.serial == q.serial) (has_request q gone) (q.serial == r.serial) (turned r.serial q.serial)) requests

-- those that pass a test expire
pub expired_waiting : (p : Request → Bool) (past : List Fact) → AllPairs Differ (pending past) → pending (expired_onto (filter p (pending past)) past) ≡ filter (λ r. not (p r)) (pending past)
expired_waiting p past pairs =
    expired_pending (filter p (pending past)) past
    ∙ without_all_is (filter p (pending past)) (pending past)
    ∙ filter_agree (λ (q : Request). not (has_request q (filter p (pending past)))) (λ (r : Request). not (p r)) (pending past)
    (all_weaker (λ (q : Request). has_request q (filter p (pending past)) ≡ p q) (λ (q : Request). not (has_request q (filter p (pending past))) ≡ not (p q)) (λ q same. ap not same) (pending past) (passes_among p (pending past) pairs))

all_passing_wait : (p : Request → Bool) (all requests : List Request) → AllByRecursion (λ r. has_request r all ≡ true) requests → AllByRecursion (λ r. has_request r all ≡ true) (filter p requests)
all_passing_wait p all requests wait = all_filter (λ (r : Request). has_request r all ≡ true) p requests wait

itself_among : (requests : List Request) → AllPairs Differ requests → AllByRecursion (λ r. has_request r requests ≡ true) requests
itself_among requests pairs =
    let whole : filter (λ (r : Request). true) requests ≡ requests = filter-all (λ (r : Request). true) requests (every (λ (r : Request). true ≡ true) (λ r. refl) requests) in
    all_weaker (λ (r : Request). has_request r (filter (λ (r : Request). true) requests) ≡ true) (λ (r : Request). has_request r requests ≡ true) (λ r is. sym (ap (has_request r) whole) ∙ is) requests (passes_among (λ (r : Request). true) requests pairs)

pub passing_wait : (p : Request → Bool) (past : List Fact) → AllPairs Differ (pending past) → AllByRecursion (λ r. is_pending r past ≡ true) (filter p (pending past))
passing_wait p past pairs = all_passing_wait p (pending past) (pending past) (itself_among (pending past) pairs)

-- ---- counts of what expires ----

pub expired_count : (requests : List Request) (past : List Fact) → count is_expired (expired_onto requests past) ≡ length (filter (λ r. not (r.conn == 0)) requests) + count is_expired past
expired_count [] past = omega arith
expired_count (r ∷ requests) past =
    let rest = expired_count requests (Expired r ∷ past) in
    rest ∙ by (not (r.conn == 0))
  where
    by : (b : Bool) → length (filter (λ q. not (q.conn == 0)) requests) + length (cond b (Expired r ∷ filter is_expired past) (filter is_expired past)) ≡ length (cond b (r ∷ filter (λ q. not (q.conn == 0)) requests) (filter (λ q. not (q.conn == 0)) requests)) + count is_expired past
    by true = omega arith
    by false = omega arith

pub expired_leave : (test : Fact → Bool) → ((r : Request) → test (Expired r) ≡ false) → (requests : List Request) (past : List Fact) → count test (expired_onto requests past) ≡ count test past
expired_leave test none [] past = refl
expired_leave test none (r ∷ requests) past = expired_leave test none requests (Expired r ∷ past) ∙ ap (λ (b : Bool). length (cond b (Expired r ∷ filter test past) (filter test past))) (none r)
