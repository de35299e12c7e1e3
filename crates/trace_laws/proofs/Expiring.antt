-- What a turn of the clock makes of the requests that wait, where nobody ends for want of room. A list of facts has the newest first.
use Rattle.std.proofs.Common.{◌≡◌, ℕ, ◌+◌, ◌≤◌, Bool, true, false, not, cond, ◌&&◌, ◌||◌, ◌==◌, nat_le, nat_lt, if◌then◌else◌, List, [], ◌∷◌, length, filter, refl, ap, sym, ◌∙◌, arith, subst, AllPairs, Contains}
use Rattle.std.specs.List.{AllByRecursion}
use Rattle.std.proofs.lemmas.Bool.{ltb-true, leb-true, leb-false, lt-ltb, le-ltb}
use Rattle.std.proofs.lemmas.List.Elements.{recursion_from_All, All-contains_itself}
use Rattle.std.proofs.lemmas.List.Kept.{AllPairs-filter}
use Rattle.kit_bytes.proofs.Lists.{all_weaker}
use Rattle.proxy_history.specs.Facts.{Fact, Request, Ended, NoRoom, Expired}
use Rattle.proxy_history.specs.Connections.{is_present}
use Rattle.proxy_history.specs.Requests.{in_use, pending, has_request, without_request, is_pending, of_space}
use Rattle.proxy_history.specs.Modem.{now}
use Rattle.proxy_history.specs.Noting.{end_overfull, each_pending, receivers_of}
use Rattle.proxy_history.specs.Sound.{Differ}
use Rattle.proxy_history.specs.Unanswered.{due}
use Rattle.proxy_history.proofs.Lists.{filter-all}
use Rattle.proxy_state.proofs.Filters.{filter_both, filter_agree}
use Rattle.proxy_solo.proofs.Lists.{turned}
use Rattle.qmi_proxy.specs.Setup.{Setup}
use Rattle.qmi_proxy.specs.Limits.{qmi_limits}
use Rattle.qmi_proxy.specs.Spaces.{control_space, service_space, space_of}
use Rattle.qmi_proxy.specs.Text.{qmi_wording, rendering, note}
use Rattle.qmi_proxy.specs.Releases.{freed_if}
use Rattle.qmi_proxy.specs.FromModem.{refuse, in_expiry_order}
use Rattle.qmux_frame.specs.Head.{is_control}
use Rattle.rig_runs.specs.Counts.{count, is_forwarded, is_answered, is_expired, is_late}
use Rattle.rig_laws.proofs.Harmless.{AreHarmless}
use Rattle.rig_laws.proofs.Shares.{is_over_share}
use Rattle.trace_laws.proofs.Waiting.{has_if_passes, has_append, without_none, one_less}

-- who sent it is a client
abbrev pub IsOfClient : Request → Type 0
IsOfClient r = (r.conn == 0) ≡ false

-- one of a client counts
pub one_counts : (b : Bool) (fact : Fact) (facts : List Fact) → b ≡ false → length (cond (not b) (fact ∷ facts) facts) ≡ length facts + 1
one_counts true fact facts e = absurd (cc)
one_counts false fact facts e = omega arith

module _ (s : Setup) where
  -- ---- nobody ends ----

  nobody_ends : (b : Bool) (c : ℕ) (past : List Fact) → AreHarmless s (if b then Ended c NoRoom ∷ past else past) → (if b then Ended c NoRoom ∷ past else past) ≡ past
  nobody_ends true c past harmless = absurd harmless.0
  nobody_ends false c past harmless = refl

  pub noted_alone : (fact : Fact) (c : ℕ) (past : List Fact) → receivers_of fact ≡ c ∷ [] → AreHarmless s (note s.device fact past) → note s.device fact past ≡ fact ∷ past
  unfolding end_overfull
  noted_alone fact c past one harmless =
      let is : note s.device fact past ≡ end_overfull qmi_limits (qmi_wording s.device) (c ∷ []) (fact ∷ past) = ap (λ (receivers : List ℕ). end_overfull qmi_limits (qmi_wording s.device) receivers (fact ∷ past)) one in
      is ∙ nobody_ends (is_present c (fact ∷ past) && (rendering s.device c (fact ∷ past)).is_over) c (fact ∷ past) (subst (AreHarmless s) is harmless)

  -- ---- requests that expire ----

  abbrev pub expire_each : List Request → List Fact → List Fact
  expire_each requests past = each_pending (λ r before. refuse s.device (Expired r) r before) requests past

  harmless_noted : (own : Bool) (r : Request) (past : List Fact) → AreHarmless s (freed_if own r past) → AreHarmless s past
  harmless_noted true r past harmless = absurd harmless.0
  harmless_noted false r past harmless = harmless

  harmless_before : (requests : List Request) (past : List Fact) → AreHarmless s (expire_each requests past) → AreHarmless s past
  unfolding each_pending
  harmless_before [] past harmless = harmless
  harmless_before (r ∷ requests) past harmless =
      let step : (b : Bool) → AreHarmless s (if b then refuse s.device (Expired r) r past else past) → AreHarmless s past =
      λ b. elim b as (λ b. AreHarmless s (if b then refuse s.device (Expired r) r past else past) → AreHarmless s past) [
        | true ↦ λ is.
            let refused = harmless_noted (r.conn == 0) r (note s.device (Expired r) past) is in
            let noted : AreHarmless s (Expired r ∷ past) = subst (AreHarmless s) (noted_alone (Expired r) r.conn past refl refused) refused in noted.1
        | false ↦ λ is. is
      ]
      in step (is_pending r past) (harmless_before requests (if is_pending r past then refuse s.device (Expired r) r past else past) harmless)

  -- these requests wait no more, and those of them that waited are counted
  pub record Expires (requests : List Request) (past after : List Fact) : Type 0 where
    pub used : in_use after ≡ in_use past
    pub time : now after ≡ now past
    pub waiting : pending after ≡ filter (λ q. not (has_request q requests)) (pending past)
    pub expired : count is_expired after + length (pending after) ≡ count is_expired past + length (pending past)
    pub forwarded : count is_forwarded after ≡ count is_forwarded past
    pub answered : count is_answered after ≡ count is_answered past
    pub late : count is_late after ≡ count is_late past
    pub shares : count is_over_share after ≡ count is_over_share past

  neither : (r : Request) (requests : List Request) (q : Request) → (not (r.serial == q.serial) && not (has_request q requests)) ≡ not (has_request q (r ∷ requests))
  neither r requests q = ap (λ (b : Bool). not b && not (has_request q requests)) (turned r.serial q.serial) ∙ elim (q.serial == r.serial) as (λ b. (not b && not (has_request q requests)) ≡ not (b || has_request q requests)) [ true ↦ refl | false ↦ refl ]

  -- the first of them waits no more, whether it waited or not
  left_waiting : (r : Request) (requests waiting : List Request) → filter (λ q. not (has_request q requests)) (without_request r waiting) ≡ filter (λ q. not (has_request q (r ∷ requests))) waiting
  left_waiting r requests waiting =
      filter_both (λ (q : Request). not (has_request q requests)) (λ (q : Request). not (r.serial == q.serial)) waiting
      ∙ filter_agree (λ (q : Request). not (r.serial == q.serial) && not (has_request q requests)) (λ (q : Request). not (has_request q (r ∷ requests))) waiting (every waiting)
    where
      every : (list : List Request) → AllByRecursion (λ (q : Request). (not (r.serial == q.serial) && not (has_request q requests)) ≡ not (has_request q (r ∷ requests))) list
      every [] = tt
      every (q ∷ list) = (neither r requests q, every list)

  pub each_expires : (requests : List Request) (past : List Fact) → AreHarmless s (expire_each requests past) → AllPairs Differ (pending past) → AllByRecursion IsOfClient requests → Expires requests past (expire_each requests past)
  unfolding each_pending in_use pending now
  each_expires [] past harmless differ clients = record {
    used = refl;
    time = refl;
    waiting = sym (filter-all (pending past));
    expired = refl;
    forwarded = refl;
    answered = refl;
    late = refl;
    shares = refl;
  }
  each_expires (r ∷ requests) past harmless differ clients =
      let step : (b : Bool) → is_pending r past ≡ b → AreHarmless s (expire_each requests (if b then refuse s.device (Expired r) r past else past)) → Expires (r ∷ requests) past (expire_each requests (if b then refuse s.device (Expired r) r past else past)) =
      λ b. elim b as (λ b. is_pending r past ≡ b → AreHarmless s (expire_each requests (if b then refuse s.device (Expired r) r past else past)) → Expires (r ∷ requests) past (expire_each requests (if b then refuse s.device (Expired r) r past else past))) [
        | true ↦ λ waits harmless.
            let refused = harmless_noted (r.conn == 0) r (note s.device (Expired r) past) (harmless_before requests (refuse s.device (Expired r) r past) harmless) in
            let alone : refuse s.device (Expired r) r past ≡ Expired r ∷ past = ap (λ (own : Bool). freed_if own r (note s.device (Expired r) past)) clients.0 ∙ noted_alone (Expired r) r.conn past refl refused in
            subst (λ (between : List Fact). Expires (r ∷ requests) past (expire_each requests between)) (sym alone)
            (goes_first waits (each_expires requests (Expired r ∷ past) (subst (λ (between : List Fact). AreHarmless s (expire_each requests between)) alone harmless) (AllPairs-filter Differ (λ (q : Request). not (r.serial == q.serial)) (pending past) differ) clients.1))
        | false ↦ λ isnt harmless. waited_not isnt (each_expires requests past harmless differ clients.1)
      ]
      in step (is_pending r past) refl harmless
    where
      goes_first : is_pending r past ≡ true → Expires requests (Expired r ∷ past) (expire_each requests (Expired r ∷ past)) → Expires (r ∷ requests) past (expire_each requests (Expired r ∷ past))
      goes_first waits E = record {
        used = E.used;
        time = E.time;
        waiting = E.waiting ∙ left_waiting r requests (pending past);
        expired =
            let more : count is_expired (Expired r ∷ past) ≡ count is_expired past + 1 = one_counts (r.conn == 0) (Expired r) (filter is_expired past) clients.0 in
            let less : length (without_request r (pending past)) + 1 ≡ length (pending past) = one_less r (pending past) differ waits in
            let rest = E.expired in
            omega (arith, more, less, rest);
        forwarded = E.forwarded;
        answered = E.answered;
        late = E.late;
        shares = E.shares;
      }

      waited_not : is_pending r past ≡ false → Expires requests past (expire_each requests past) → Expires (r ∷ requests) past (expire_each requests past)
      waited_not isnt E = record {
        used = E.used;
        time = E.time;
        waiting = E.waiting ∙ ap (filter (λ q. not (has_request q requests))) (sym (without_none r (pending past) isnt)) ∙ left_waiting r requests (pending past);
        expired = E.expired;
        forwarded = E.forwarded;
        answered = E.answered;
        late = E.late;
        shares = E.shares;
      }

-- ---- those whose time has come ----

-- each request is of one of the two spaces
in_one : (come control : Bool) (space : ℕ) → space ≡ (if control then control_space else service_space) → ((come && (space == control_space)) || (come && (space == service_space))) ≡ come
in_one come control space is =
    ap (λ (n : ℕ). (come && (n == control_space)) || (come && (n == service_space))) is
    ∙ elim control as (λ b. ((come && ((if b then control_space else service_space) == control_space)) || (come && ((if b then control_space else service_space) == service_space))) ≡ come) [
      | true ↦ elim come as (λ b. ((b && true) || (b && false)) ≡ b) [ true ↦ refl | false ↦ refl ]
      | false ↦ elim come as (λ b. ((b && false) || (b && true)) ≡ b) [ true ↦ refl | false ↦ refl ]
    ]

abbrev pub has_come : ℕ → Request → Bool
has_come shown r = nat_le r.deadline shown

-- the order of refusals has those whose time has come
pub has_in_order : (shown : ℕ) (requests : List Request) (q : Request) → AllPairs Differ requests → Contains requests q → q.space ≡ space_of q.message → has_request q (in_expiry_order (due shown requests)) ≡ has_come shown q
has_in_order shown requests q differ at placed =
    has_append q (of_space control_space (due shown requests)) (of_space service_space (due shown requests))
    ∙ ap (λ (b : Bool). b || has_request q (of_space service_space (due shown requests))) (of control_space)
    ∙ ap (λ (b : Bool). (has_come shown q && (q.space == control_space)) || b) (of service_space)
    ∙ in_one (has_come shown q) (is_control q.message) q.space placed
  where
    of : (space : ℕ) → has_request q (of_space space (due shown requests)) ≡ (has_come shown q && (q.space == space))
    of space =
        ap (has_request q) (filter_both (λ (r : Request). r.space == space) (has_come shown) requests)
        ∙ has_if_passes (λ (r : Request). has_come shown r && (r.space == space)) requests q differ at

not_come : (deadline shown : ℕ) → not (nat_le deadline shown) ≡ nat_lt shown deadline
not_come deadline shown =
    let step : (b : Bool) → nat_le deadline shown ≡ b → not b ≡ nat_lt shown deadline =
    λ b. elim b as (λ b. nat_le deadline shown ≡ b → not b ≡ nat_lt shown deadline) [
      | true ↦ λ e. sym (le-ltb shown deadline (leb-true deadline shown e))
      | false ↦ λ e. sym (lt-ltb shown deadline (leb-false deadline shown e))
    ]
    in step (nat_le deadline shown) refl

abbrev pub still_waits : ℕ → Request → Bool
still_waits time r = nat_lt time r.deadline

-- those that wait then, of those that wait now
pub left_then : (shown : ℕ) (requests : List Request) → AllPairs Differ requests → ((q : Request) → Contains requests q → q.space ≡ space_of q.message)
    → filter (λ q. not (has_request q (in_expiry_order (due shown requests)))) requests ≡ filter (still_waits shown) requests
left_then shown requests differ placed =
    filter_agree (λ (q : Request). not (has_request q (in_expiry_order (due shown requests)))) (still_waits shown) requests
    (all_weaker (Contains requests) (λ (q : Request). not (has_request q (in_expiry_order (due shown requests))) ≡ still_waits shown q)
    (λ (q : Request) at. ap not (has_in_order shown requests q differ at (placed q at)) ∙ not_come q.deadline shown) requests (recursion_from_All (Contains requests) requests (All-contains_itself requests)))

later_alone : (now shown deadline : ℕ) → now ≤ shown → (nat_lt now deadline && nat_lt shown deadline) ≡ nat_lt shown deadline
later_alone now shown deadline order =
    let step : (b : Bool) → nat_lt shown deadline ≡ b → (nat_lt now deadline && b) ≡ b =
    λ b. elim b as (λ b. nat_lt shown deadline ≡ b → (nat_lt now deadline && b) ≡ b) [
      | true ↦ λ e. let late : shown ≤ deadline = (let below = ltb-true shown deadline e in omega (arith, below)) in ap (λ (t : Bool). t && true) (lt-ltb now deadline (let below = ltb-true shown deadline e in omega (arith, below, order)))
      | false ↦ λ e. elim (nat_lt now deadline) as (λ t. (t && false) ≡ false) [ true ↦ refl | false ↦ refl ]
    ]
    in step (nat_lt shown deadline) refl

-- who waits at a later time waited before
pub waits_later : (now shown : ℕ) → now ≤ shown → (requests : List Request) → filter (still_waits shown) (filter (still_waits now) requests) ≡ filter (still_waits shown) requests
waits_later now shown order requests =
    filter_both (still_waits shown) (still_waits now) requests ∙ filter_agree (λ (r : Request). still_waits now r && still_waits shown r) (still_waits shown) requests (every requests)
  where
    every : (list : List Request) → AllByRecursion (λ (r : Request). (still_waits now r && still_waits shown r) ≡ still_waits shown r) list
    every [] = tt
    every (r ∷ list) = (later_alone now shown r.deadline order, every list)

pub came_or_waits : (shown : ℕ) (r : Request) → still_waits shown r ≡ not (has_come shown r)
came_or_waits shown r = sym (not_come r.deadline shown)
