-- A ledger counts what the facts say. Lists of events and of facts have the newest first.
use Rattle.std.proofs.Common.{◌≡◌, ℕ, ◌+◌, ◌-◌, ◌^◌, ◌<◌, ◌≤◌, max, Bool, true, false, not, cond, ◌==◌, nat_lt, if◌then◌else◌, List, [], ◌∷◌, ◌++◌, length, map, filter, refl, ap, sym, ◌∙◌, subst, arith, Option, Some, None, option_map, All, AllPairs, Contains}
use Rattle.std.specs.List.{AllByRecursion}
use Rattle.std.proofs.lemmas.Bool.{lt-ltb, and_parts}
use Rattle.std.proofs.lemmas.Bool.Decides.{nat_tests}
use Rattle.std.proofs.lemmas.List.{length-map}
use Rattle.std.proofs.lemmas.List.Elements.{recursion_from_All, All-from_recursion, All-contains, All-append, filter-append}
use Rattle.std.proofs.lemmas.List.Filters.{length-filter_both}
use Rattle.std.proofs.lemmas.List.Kept.{AllPairs-filter}
use Rattle.kit_bytes.proofs.Lists.{all_filter, all_push}
use Rattle.proxy_history.specs.Facts.{Fact, Request, Verdict, NotAdmitted, Own, Share, Foreign, Away, Full, Forward, Ready, Waits, EventBegan, Admitted, Ended, Judged, Taken, Forwarded, Answered, IdHeld, Late, Stray, Granted, Freed, ModemTaken, TimeIs}
use Rattle.proxy_history.specs.Decision.{Decision, Replies, Forwards}
use Rattle.proxy_history.specs.Connections.{message_count}
use Rattle.proxy_history.specs.Requests.{in_use, pending, is_pending, has_request, without_request, of_space, deadline_of}
use Rattle.proxy_history.specs.Modem.{now}
use Rattle.proxy_history.specs.Sound.{Differ}
use Rattle.proxy_history.specs.Unanswered.{due}
use Rattle.proxy_history.proofs.Lists.{Contains-filter_from}
use Rattle.proxy_history.proofs.Found.{found_is}
use Rattle.proxy_state.proofs.Filters.{filter_both, filter_swap}
use Rattle.proxy_state.proofs.Lists.{filter_map_is}
use Rattle.qmux_frame.specs.Control.{is_proxy_open}
use Rattle.qmi_proxy.specs.Setup.{Setup}
use Rattle.qmi_proxy.specs.Spaces.{control_space, service_space, space_of}
use Rattle.qmi_proxy.specs.Messages.{equals, value_of, uses_id}
use Rattle.qmi_proxy.specs.Clients.{wire, grant_if, judge}
use Rattle.qmi_proxy.specs.FromModem.{IdChange, NoChange, Grants, Collides, Frees, is_answered_by, first_answered_by, id_change, holder_of_brought, answer, answer_to, answer_or_late, respond, in_expiry_order, tick}
use Rattle.qmi_proxy.specs.Text.{note}
use Rattle.qmi_solo.proofs.Numbering.{renumbered}
use Rattle.rig_runs.specs.Rig.{time_limit}
use Rattle.rig_runs.specs.Counts.{count, is_forwarded, is_answered, is_expired, is_late}
use Rattle.rig_laws.proofs.Harmless.{AreHarmless, passing_opens_none}
use Rattle.rig_laws.proofs.Shares.{is_over_share}
use Rattle.rig_trace.specs.declared.rows.Counts.{Counts}
use Rattle.rig_trace.specs.declared.rows.Row.{Row}
use Rattle.rig_trace.specs.Rows.{Ledger, one_forwarded, has_said, has_answered, expires, has_passed}
use Rattle.rig_trace.specs.Qmi.{qmi_reading}
use Rattle.trace_laws.specs.Laws.{row_of}
use Rattle.trace_laws.proofs.Saying.{request_on, asked_on, said_some}
use Rattle.trace_laws.proofs.Waiting.{has_if_passes}
use Rattle.trace_laws.proofs.Expiring.{IsOfClient, one_counts, noted_alone, expire_each, Expires, each_expires, still_waits, has_come, left_then, waits_later, came_or_waits}

-- ---- what facts tell ----

abbrev with_counts : (forwarded answered expired late refused : ℕ) → Counts
with_counts forwarded answered expired late refused = record { forwarded = forwarded; answered = answered; expired = expired; late = late; refused = refused }

-- those that are refused pass their clients' shares
abbrev pub tallied : List Fact → Counts
tallied past = with_counts (count is_forwarded past) (count is_answered past) (count is_expired past) (count is_late past) (count is_over_share past)

-- these counts are those of the facts; a request in use waits until its deadline, and a client made it
pub record Tells (past : List Fact) (counts : Counts) : Type 0 where
  pub counts_are : counts ≡ tallied past
  pub waits : pending past ≡ filter (still_waits (now past)) (in_use past)
  pub clients : AllByRecursion IsOfClient (in_use past)

-- facts that change nothing of this
pub record Same (past after : List Fact) : Type 0 where
  pub counts : tallied after ≡ tallied past
  pub used : in_use after ≡ in_use past
  pub waiting : pending after ≡ pending past
  pub time : now after ≡ now past

pub tells_same : (past after : List Fact) (counts : Counts) → Same past after → Tells past counts → Tells after counts
tells_same past after counts S T = record {
  counts_are = T.counts_are ∙ sym S.counts;
  waits = S.waiting ∙ T.waits ∙ ap (λ (n : ℕ). filter (still_waits n) (in_use past)) (sym S.time) ∙ ap (filter (still_waits (now after))) (sym S.used);
  clients = subst (AllByRecursion IsOfClient) (sym S.used) T.clients;
}

begun_same : (past : List Fact) → Same past (EventBegan ∷ past)
unfolding in_use pending now
begun_same past = record { counts = refl; used = refl; waiting = refl; time = refl }

pub tells_begun : (past : List Fact) (counts : Counts) → Tells past counts → Tells (EventBegan ∷ past) counts
tells_begun past counts T = tells_same past (EventBegan ∷ past) counts (begun_same past) T

module _ (s : Setup) where
  -- ---- a client joins, somebody takes ----

  pub joined_same : (c : ℕ) (past : List Fact) (room : Bool) → AreHarmless s (if room then Admitted c ∷ past else Ended c NotAdmitted ∷ past) → Same past (if room then Admitted c ∷ past else Ended c NotAdmitted ∷ past)
  unfolding in_use pending now
  joined_same c past true harmless = record { counts = refl; used = refl; waiting = refl; time = refl }
  joined_same c past false harmless = absurd harmless.0

  pub taken_same : (c count : ℕ) (past : List Fact) (is : Bool) → Same past (if is then Taken c count ∷ past else past)
  unfolding in_use pending now
  taken_same c count past true = record { counts = refl; used = refl; waiting = refl; time = refl }
  taken_same c count past false = record { counts = refl; used = refl; waiting = refl; time = refl }

  pub modem_taken_same : (count : ℕ) (past : List Fact) → Same past (ModemTaken count ∷ past)
  unfolding in_use pending now
  modem_taken_same count past = record { counts = refl; used = refl; waiting = refl; time = refl }

  -- ---- a client says something ----

  -- one that opens the device, or is forwarded
  opening_same : (c place : ℕ) (m : List ℕ) (past : List Fact) → Same past (Judged c place m Own ∷ past)
  unfolding in_use pending now
  opening_same c place m past = record { counts = refl; used = refl; waiting = refl; time = refl }

  judged_same : (c place : ℕ) (m : List ℕ) (past : List Fact) → Same past (Judged c place m Forward ∷ past)
  unfolding in_use pending now
  judged_same c place m past = record { counts = refl; used = refl; waiting = refl; time = refl }

  -- and one that passes its client's share
  passing_tells : (c place : ℕ) (m : List ℕ) (past : List Fact) (counts : Counts) → Tells past counts → Tells (Judged c place m Share ∷ past) (record counts { refused = counts.refused + 1 })
  unfolding in_use pending now
  passing_tells c place m past counts T = record {
    counts_are =
        let more : count is_over_share past + 1 ≡ count is_over_share (Judged c place m Share ∷ past) = omega arith in
        ap (λ (k : Counts). record k { refused = k.refused + 1 }) T.counts_are ∙ ap (with_counts (count is_forwarded past) (count is_answered past) (count is_expired past) (count is_late past)) more;
    waits = T.waits;
    clients = T.clients;
  }

  abbrev told_if : (opens : Bool) → (verdict : Verdict) → (c place : ℕ) → (m : List ℕ) → List Fact → Counts → Type 0
  told_if opens verdict c place m past counts = Tells (Judged c place m verdict ∷ past) (let k : Counts = if opens then counts else record counts { refused = counts.refused + 1 } in k)

  -- a reply is to one that opens the device, or to one that passes its client's share
  reply_tells : (c place : ℕ) (m : List ℕ) (verdict : Verdict) (past : List Fact) (counts : Counts) → AreHarmless s (Judged c place m verdict ∷ past) → (verdict ≡ Forward → ⊥) → Tells past counts → told_if (is_proxy_open m) verdict c place m past counts
  reply_tells c place m Own past counts harmless other T =
      subst (λ (b : Bool). told_if b Own c place m past counts) (sym (and_parts (is_proxy_open m) (equals s.device (value_of 0x01 m)) harmless.0.1).0)
      (tells_same past (Judged c place m Own ∷ past) counts (opening_same c place m past) T)
  reply_tells c place m Share past counts harmless other T = subst (λ (b : Bool). told_if b Share c place m past counts) (sym (passing_opens_none s c m past harmless.0)) (passing_tells c place m past counts T)
  reply_tells c place m Forward past counts harmless other T = absurd (other refl)
  reply_tells c place m Foreign past counts harmless other T = absurd harmless.0
  reply_tells c place m Away past counts harmless other T = absurd harmless.0
  reply_tells c place m Full past counts harmless other T = absurd harmless.0
  reply_tells c place m Ready past counts harmless other T = absurd harmless.0
  reply_tells c place m Waits past counts harmless other T = absurd harmless.0

  replied_tells : (c : ℕ) (m : List ℕ) (verdict : Verdict) (past : List Fact) (place : ℕ) (ledger : Ledger) → (verdict ≡ Forward → ⊥) → AreHarmless s (note s.device (Judged c place m verdict) past) → Tells past ledger.counts
      → Tells (note s.device (Judged c place m verdict) past) (has_said qmi_reading c m [] ledger).counts
  replied_tells c m verdict past place ledger other harmless T =
      let alone = noted_alone s (Judged c place m verdict) c past refl harmless in
      subst (λ (after : List Fact). Tells after (has_said qmi_reading c m [] ledger).counts) (sym alone) (reply_tells c place m verdict past ledger.counts (subst (AreHarmless s) alone harmless) other T)

  -- a request that is forwarded
  forwarded_tells : (r : Request) (past : List Fact) (counts : Counts) → IsOfClient r → still_waits (now past) r ≡ true → Tells past counts → Tells (Forwarded r ∷ past) (record counts { forwarded = counts.forwarded + 1 })
  unfolding in_use pending now
  forwarded_tells r past counts client waits T = record {
    counts_are =
        ap (λ (k : Counts). record k { forwarded = k.forwarded + 1 }) T.counts_are
        ∙ ap (λ (n : ℕ). let k : Counts = record (tallied past) { forwarded = n } in k) (sym (one_counts (r.conn == 0) (Forwarded r) (filter is_forwarded past) client));
    waits =
        ap (λ (l : List Request). l ++ r ∷ []) T.waits
        ∙ ap (λ (b : Bool). filter (still_waits (now past)) (in_use past) ++ cond b (r ∷ []) []) (sym waits)
        ∙ sym (filter-append (still_waits (now past)) (in_use past) (r ∷ []));
    clients = all_push IsOfClient (in_use past) r T.clients client;
  }

  granted_same : (b : Bool) (c : ℕ) (m : List ℕ) (past : List Fact) → Same past (grant_if b c m past)
  unfolding in_use pending now
  granted_same true c m past = record { counts = refl; used = refl; waiting = refl; time = refl }
  granted_same false c m past = record { counts = refl; used = refl; waiting = refl; time = refl }

  -- so early that its deadline comes later
  waits_first : (shown : ℕ) → shown < 2 ^ 64 - 1 → nat_lt shown (deadline_of shown time_limit) ≡ true
  waits_first shown early = lt-ltb shown (deadline_of shown time_limit) (omega (arith, early))

  module _ (limit : s.time_limit ≡ time_limit) (c : ℕ) (low : 1 ≤ c) (m : List ℕ) (past : List Fact) (early : now past < 2 ^ 64 - 1) where
    is_client : (c == 0) ≡ false
    is_client = grind (arith, nat_tests)

    request_waits : (number : ℕ) → still_waits (now past) (request_on s c m number past) ≡ true
    unfolding now
    request_waits number = ap (λ (l : ℕ). nat_lt (now past) (deadline_of (now past) l)) limit ∙ waits_first (now past) early

    asked_tells : (number : ℕ) (ledger : Ledger) → 0 < length (wire (request_on s c m number past)) → Tells past ledger.counts
        → Tells (judge s c m (Forwards number) past) (has_said qmi_reading c m (wire (request_on s c m number past)) ledger).counts
    unfolding now
    asked_tells number ledger some T =
        let r : Request = request_on s c m number past in
        let judged : List Fact = Judged c (message_count c past + 1) m Forward ∷ past in
        let J : Tells judged ledger.counts = tells_same past judged ledger.counts (judged_same c (message_count c past + 1) m past) T in
        let F : Tells (Forwarded r ∷ judged) (one_forwarded false ledger.counts) = forwarded_tells r judged ledger.counts is_client (request_waits number) J in
        subst (λ (l : Ledger). Tells (judge s c m (Forwards number) past) l.counts) (sym (said_some c m (wire r) ledger some))
        (tells_same (Forwarded r ∷ judged) (judge s c m (Forwards number) past) (one_forwarded false ledger.counts) (granted_same (uses_id m) c m (Forwarded r ∷ judged)) F)

    pub said_tells : (decision : Decision) (ledger : Ledger) → (decision ≡ Replies Forward → ⊥) → 12 ≤ length m → AreHarmless s (judge s c m decision past) → Tells past ledger.counts
        → Tells (judge s c m decision past) (has_said qmi_reading c m (asked_on s c m decision past) ledger).counts
    said_tells (Replies verdict) ledger other long harmless T = replied_tells c m verdict past (message_count c past + 1) ledger (λ is. other (ap (λ (v : Verdict). Replies v) is)) harmless T
    said_tells (Forwards number) ledger other long harmless T = asked_tells number ledger (let same = (renumbered number m long).long in omega (arith, same, long)) T

  -- ---- the modem answers ----

  granted_before : (c service cid : ℕ) (past : List Fact) → Same past (Granted c service cid ∷ past)
  unfolding in_use pending now
  granted_before c service cid past = record { counts = refl; used = refl; waiting = refl; time = refl }

  module _ (m : List ℕ) (r : Request) where
    answered_tells : (past : List Fact) (counts : Counts) → IsOfClient r → Tells past counts → Tells (Answered r m ∷ past) (record counts { answered = counts.answered + 1 })
    unfolding in_use pending now
    answered_tells past counts client T = record {
      counts_are =
          ap (λ (k : Counts). record k { answered = k.answered + 1 }) T.counts_are
          ∙ ap (λ (n : ℕ). let k : Counts = record (tallied past) { answered = n } in k) (sym (one_counts (r.conn == 0) (Answered r m) (filter is_answered past) client));
      waits = ap (without_request r) T.waits ∙ filter_swap (λ (q : Request). not (r.serial == q.serial)) (still_waits (now past)) (in_use past);
      clients = all_filter IsOfClient (λ (q : Request). not (r.serial == q.serial)) (in_use past) T.clients;
    }

    late_tells : (past : List Fact) (counts : Counts) → IsOfClient r → Tells past counts → Tells (Late r ∷ past) (record counts { late = counts.late + 1 })
    unfolding in_use pending now
    late_tells past counts client T = record {
      counts_are =
          ap (λ (k : Counts). record k { late = k.late + 1 }) T.counts_are
          ∙ ap (λ (n : ℕ). let k : Counts = record (tallied past) { late = n } in k) (sym (one_counts (r.conn == 0) (Late r) (filter is_late past) client));
      waits = ap (without_request r) T.waits ∙ filter_swap (λ (q : Request). not (r.serial == q.serial)) (still_waits (now past)) (in_use past);
      clients = all_filter IsOfClient (λ (q : Request). not (r.serial == q.serial)) (in_use past) T.clients;
    }

    module _ (past : List Fact) (counts : Counts) (client : IsOfClient r) (T : Tells past counts) where
      abbrev one_more : Counts
      one_more = record counts { answered = counts.answered + 1 }

      change_tells : (change : IdChange) → AreHarmless s (answer s.device r m change past) → Tells (answer s.device r m change past) one_more
      change_tells NoChange harmless =
          subst (λ (after : List Fact). Tells after one_more) (sym (noted_alone s (Answered r m) r.conn past refl harmless)) (answered_tells past counts client T)
      change_tells (Grants service id) harmless =
          let between : List Fact = Granted r.conn service id ∷ past in
          subst (λ (after : List Fact). Tells after one_more) (sym (noted_alone s (Answered r m) r.conn between refl harmless))
          (answered_tells between counts client (tells_same past between counts (granted_before r.conn service id past) T))
      change_tells Collides harmless = let noted : AreHarmless s (IdHeld r ∷ past) = subst (AreHarmless s) (noted_alone s (IdHeld r) r.conn past refl harmless) harmless in absurd noted.0
      change_tells (Frees service id) harmless =
          let between : List Fact = Freed r.conn service id ∷ past in
          let noted : AreHarmless s (Answered r m ∷ between) = subst (AreHarmless s) (noted_alone s (Answered r m) r.conn between refl harmless) harmless in
          absurd noted.1.0

      heard_tells : (waits : Bool) → AreHarmless s (answer_or_late s.device waits r m past)
          → Tells (answer_or_late s.device waits r m past) (if waits then one_more else record counts { late = counts.late + 1 })
      heard_tells true harmless =
          subst (λ (own : Bool). AreHarmless s (answer_to own s.device r m past) → Tells (answer_to own s.device r m past) one_more) (sym client)
          (λ harmless. change_tells (id_change r.conn r.message m (holder_of_brought m past)) harmless) harmless
      heard_tells false harmless = late_tells past counts client T

  stray_same : (past : List Fact) → Same past (Stray ∷ past)
  unfolding in_use pending now
  stray_same past = record { counts = refl; used = refl; waiting = refl; time = refl }

  module _ (m : List ℕ) (past : List Fact) (differ : AllPairs Differ (in_use past)) (ledger : Ledger) (clock : ledger.time ≡ now past) (T : Tells past ledger.counts) where
    -- who waits is answered, and who doesn't any more was late
    pub responded_tells : (found : Option Request) → first_answered_by m (in_use past) ≡ found → AreHarmless s (respond s.device found m past) → Tells (respond s.device found m past) (has_answered (option_map row_of found) ledger).counts
    responded_tells None is harmless = tells_same past (Stray ∷ past) ledger.counts (stray_same past) T
    responded_tells (Some r) is harmless =
        let at : Contains (in_use past) r = (found_is (is_answered_by m) (in_use past) r is).0 in
        let client : IsOfClient r = All-contains IsOfClient (in_use past) r (All-from_recursion IsOfClient (in_use past) T.clients) at in
        let waits : is_pending r past ≡ nat_lt ledger.time r.deadline =
        ap (has_request r) T.waits ∙ has_if_passes (still_waits (now past)) (in_use past) r differ at ∙ ap (λ (n : ℕ). nat_lt n r.deadline) (sym clock) in
        subst (λ (b : Bool). Tells (respond s.device (Some r) m past) (let counts : Counts = if b then record ledger.counts { answered = ledger.counts.answered + 1 } else record ledger.counts { late = ledger.counts.late + 1 } in counts)) waits
        (heard_tells m r past ledger.counts client T (is_pending r past) harmless)

  -- ---- the time goes on ----

  in_order_too : (requests : List Request) → AllByRecursion IsOfClient requests → AllByRecursion IsOfClient (in_expiry_order requests)
  in_order_too requests all =
      let of : (space : ℕ) → All IsOfClient (of_space space requests) =
      λ space. All-from_recursion IsOfClient (of_space space requests) (all_filter IsOfClient (λ (r : Request). r.space == space) requests all) in
      recursion_from_All IsOfClient (in_expiry_order requests) (All-append IsOfClient (of_space control_space requests) (of_space service_space requests) (of control_space) (of service_space))

  module _ (past : List Fact) (shown : ℕ) (order : now past ≤ shown) (differ : AllPairs Differ (in_use past)) (placed : (q : Request) → Contains (in_use past) q → q.space ≡ space_of q.message) (counts : Counts) (T : Tells past counts) where
    abbrev due_ones : List Request
    due_ones = in_expiry_order (due shown (pending past))

    abbrev after : List Fact
    after = expire_each s due_ones (TimeIs shown ∷ past)

    -- those of them that wait
    waiting_differ : AllPairs Differ (pending past)
    waiting_differ = subst (AllPairs Differ) (sym T.waits) (AllPairs-filter Differ (still_waits (now past)) (in_use past) differ)

    waiting_placed : (q : Request) → Contains (pending past) q → q.space ≡ space_of q.message
    waiting_placed q at = placed q (Contains-filter_from (still_waits (now past)) (in_use past) q (subst (λ (l : List Request). Contains l q) T.waits at))

    waiting_clients : AllByRecursion IsOfClient (pending past)
    waiting_clients = subst (AllByRecursion IsOfClient) (sym T.waits) (all_filter IsOfClient (still_waits (now past)) (in_use past) T.clients)

    all_expire : AreHarmless s after → Expires s due_ones (TimeIs shown ∷ past) after
    unfolding pending
    all_expire harmless = each_expires s due_ones (TimeIs shown ∷ past) harmless waiting_differ (in_order_too (due shown (pending past)) (all_filter IsOfClient (has_come shown) (pending past) waiting_clients))

    module _ (E : Expires s due_ones (TimeIs shown ∷ past) after) where
      waits_then : pending after ≡ filter (still_waits shown) (pending past)
      unfolding pending
      waits_then = E.waiting ∙ left_then shown (pending past) waiting_differ waiting_placed

      waits_by_time : pending after ≡ filter (still_waits (now after)) (in_use after)
      unfolding in_use now
      waits_by_time =
          waits_then ∙ ap (filter (still_waits shown)) T.waits ∙ waits_later (now past) shown order (in_use past)
          ∙ ap (λ (n : ℕ). filter (still_waits n) (in_use past)) (sym E.time) ∙ ap (filter (still_waits (now after))) (sym E.used)

      clients_then : AllByRecursion IsOfClient (in_use after)
      unfolding in_use
      clients_then = subst (AllByRecursion IsOfClient) (sym E.used) T.clients

      expired_then : count is_expired after ≡ count is_expired past + length (filter (has_come shown) (pending past))
      unfolding pending
      expired_then =
          let both = length-filter_both (has_come shown) (still_waits shown) (came_or_waits shown) (pending past) in
          let left = ap length waits_then in
          let sum = E.expired in
          omega (arith, both, left, sum)

      -- as many are counted
      passed_tells : (n : ℕ) → n ≡ length (filter (has_come shown) (pending past)) → Tells after (record counts { expired = counts.expired + n })
      passed_tells n is = record {
        counts_are =
            ap (λ (k : Counts). record k { expired = k.expired + n }) T.counts_are
            ∙ ap (λ (k : ℕ). with_counts (count is_forwarded past) (count is_answered past) k (count is_late past) (count is_over_share past)) (ap (λ (k : ℕ). count is_expired past + k) is ∙ sym expired_then)
            ∙ ap (λ (k : ℕ). with_counts k (count is_answered past) (count is_expired after) (count is_late past) (count is_over_share past)) (sym E.forwarded)
            ∙ ap (λ (k : ℕ). with_counts (count is_forwarded after) k (count is_expired after) (count is_late past) (count is_over_share past)) (sym E.answered)
            ∙ ap (λ (k : ℕ). with_counts (count is_forwarded after) (count is_answered after) (count is_expired after) k (count is_over_share past)) (sym E.late)
            ∙ ap (with_counts (count is_forwarded after) (count is_answered after) (count is_expired after) (count is_late after)) (sym E.shares);
        waits = waits_by_time;
        clients = clients_then;
      }

  -- the rows that expire are those of the requests whose time has come
  rows_expire : (before shown : ℕ) (requests : List Request) → length (filter (expires before shown) (map row_of requests)) ≡ length (filter (has_come shown) (filter (still_waits before) requests))
  rows_expire before shown requests =
      ap length (filter_map_is (expires before shown) row_of requests)
      ∙ length-map (filter (λ r. expires before shown (row_of r)) requests) row_of
      ∙ ap length (sym (filter_both (has_come shown) (still_waits before) requests))

  pub time_tells : (time : ℕ) (past : List Fact) → AllPairs Differ (in_use past) → ((q : Request) → Contains (in_use past) q → q.space ≡ space_of q.message) → (ledger : Ledger) → ledger.time ≡ now past → ledger.rows ≡ map row_of (in_use past)
      → Tells past ledger.counts → AreHarmless s (tick s.device time past) → Tells (tick s.device time past) (has_passed time ledger).counts
  time_tells time past differ placed ledger clock rows T harmless =
      let shown : ℕ = max time (now past) in
      let order : now past ≤ shown = omega arith in
      let E = all_expire past shown order differ placed ledger.counts T harmless in
      passed_tells past shown order differ placed ledger.counts T E (length (filter (expires ledger.time (max time ledger.time)) ledger.rows))
      (ap (λ (n : ℕ). length (filter (expires n (max time n)) ledger.rows)) clock ∙ ap (λ (l : List Row). length (filter (expires (now past) shown) l)) rows ∙ rows_expire (now past) shown (in_use past)
      ∙ ap (λ (l : List Request). length (filter (has_come shown) l)) (sym T.waits))
