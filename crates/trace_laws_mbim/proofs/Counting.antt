-- The ledger of a rig's events counts what their facts say. Lists of events and of facts have the newest first.
use Rattle.std.proofs.Common.{◌≡◌, ℕ, zero, suc, ◌+◌, ◌-◌, ◌^◌, ◌<◌, ◌≤◌, min, max, Bool, true, false, not, cond, ◌&&◌, ◌==◌, nat_lt, nat_le, if◌then◌else◌, List, [], ◌∷◌, ◌++◌, length, filter, map, Option, Some, None, ⊎_elim, refl, ap, ap₂, sym, ◌∙◌, arith, subst, AllPairs, Contains}
use Rattle.std.specs.List.{AllByRecursion}
use Rattle.std.proofs.lemmas.Bool.{eq-eqb, lt-ltb}
use Rattle.std.proofs.lemmas.Bool.Decides.{nat_tests}
use Rattle.std.proofs.lemmas.List.{length-map}
use Rattle.std.proofs.lemmas.List.Elements.{filter-append, All-from_recursion, All-contains, Contains-append_right}
use Rattle.std.proofs.lemmas.List.Kept.{AllPairs-filter}
use Rattle.kit_bytes.proofs.Lists.{all_weaker}
use Rattle.proxy_history.specs.Events.{Event, Joined, Piece, Left, ModemPiece, ModemGone, ModemBack, Now, Took, ModemTook}
use Rattle.proxy_history.specs.Facts.{Fact, Request, Verdict, Own, Share, Forward, Ready, Waits, Admitted, Judged, Taken, Forwarded, Answered, Late, Expired, OpeningEnded, ModemTaken, TimeIs}
use Rattle.proxy_history.specs.Connections.{is_present}
use Rattle.proxy_history.specs.Requests.{in_use, pending, is_pending, has_request, without_request}
use Rattle.proxy_history.specs.Modem.{now}
use Rattle.proxy_history.specs.History as proxy
use Rattle.proxy_history.specs.Unanswered.{due}
use Rattle.proxy_history.specs.Sound.{Differ}
use Rattle.proxy_history.proofs.SoundLaws.{in_use_differ}
use Rattle.proxy_state.proofs.Filters.{filter_agree, filter_swap}
use Rattle.proxy_state.proofs.Lists.{filter_map_is}
use Rattle.mbim_proxy.specs.ModemStates.{is_own_open}
use Rattle.mbim_proxy.specs.Forwarding.{wire}
use Rattle.mbim_proxy.specs.Proxy.{proxy_of}
use Rattle.mbim_proxy.specs.History.{history}
use Rattle.mbim_proxy.proofs.Sound.{histories_are_sound}
use Rattle.rig_runs.specs.Mbim.{setup}
use Rattle.rig_runs.specs.MbimExamples.{configuration, open_2}
use Rattle.rig_runs.specs.Counts.{count, is_forwarded, is_answered, is_expired, is_late}
use Rattle.rig_laws.proofs.Shares.{is_over_share}
use Rattle.rig_laws_mbim.proofs.Messages.{query, cid_for}
use Rattle.rig_laws_mbim.proofs.Hears.{no_more, answered_or_late}
use Rattle.rig_laws_mbim.proofs.Adding.{began, new_bytes, IsNext, IsCommand, IsOwnOpen, HasSaid, naming, finding, having_opened, querying, passing, HasHeard, answering, ending, expired_by, Adds, AreMoments}
use Rattle.rig_trace.specs.declared.rows.Row.{Row}
use Rattle.rig_trace.specs.declared.rows.Counts.{Counts}
use Rattle.rig_trace.specs.Rows.{Ledger, empty, has_said, has_answered, has_passed, one_forwarded, one_refused, expires, follow, first_with, asked_by, ledger_of}
use Rattle.rig_trace.specs.Mbim.{key_of, is_open, opens, mbim_reading}
use Rattle.trace_laws_mbim.specs.Laws.{row_of}
use Rattle.trace_laws_mbim.proofs.Rows.{Asked}
use Rattle.trace_laws_mbim.proofs.Mirroring.{Reflects, reflects, says_some, Starts, command_starts, own_starts, answer_finds, opening_finds, expired_same}
use Rattle.trace_laws_mbim.proofs.Waiting.{filter_both, passes_among, expired_onto, each_expires, expired_waiting, passing_wait, expired_count, expired_leave}

-- a request waits until its deadline
abbrev pub waits_at : (time : ℕ) → Request → Bool
waits_at time r = nat_lt time r.deadline

-- of the requests in use those wait whose deadlines haven't come, and these are the counts of the facts; those that are refused pass their clients' shares
pub record IsCounted (past : List Fact) (counts : Counts) : Type 0 where
  pub waits : pending past ≡ filter (waits_at (now past)) (in_use past)
  pub forwarded : counts.forwarded ≡ count is_forwarded past
  pub answered : counts.answered ≡ count is_answered past
  pub expired : counts.expired ≡ count is_expired past
  pub late : counts.late ≡ count is_late past
  pub refused : counts.refused ≡ count is_over_share past

-- ---- facts that aren't counted ----

record IsUncounted (past after : List Fact) : Type 0 where
  uses : in_use after ≡ in_use past
  waiting : pending after ≡ pending past
  time : now after ≡ now past
  forwarded : count is_forwarded after ≡ count is_forwarded past
  answered : count is_answered after ≡ count is_answered past
  expired : count is_expired after ≡ count is_expired past
  late : count is_late after ≡ count is_late past
  shares : count is_over_share after ≡ count is_over_share past

uncounted : (past after : List Fact) (counts : Counts) → IsUncounted past after → IsCounted past counts → IsCounted after counts
uncounted past after counts is all = record {
  waits = is.waiting ∙ all.waits ∙ ap₂ (λ (time : ℕ) (requests : List Request). filter (waits_at time) requests) (sym is.time) (sym is.uses);
  forwarded = all.forwarded ∙ sym is.forwarded;
  answered = all.answered ∙ sym is.answered;
  expired = all.expired ∙ sym is.expired;
  late = all.late ∙ sym is.late;
  refused = all.refused ∙ sym is.shares;
}

joined : (c : ℕ) (past : List Fact) (counts : Counts) → IsCounted past counts → IsCounted (Admitted c ∷ began past) counts
unfolding in_use pending now
joined c past counts all = uncounted past (Admitted c ∷ began past) counts (record { uses = refl; waiting = refl; time = refl; forwarded = refl; answered = refl; expired = refl; late = refl; shares = refl }) all

taken : (c size : ℕ) (past : List Fact) (counts : Counts) → IsCounted past counts → (b : Bool) → IsCounted (if b then Taken c size ∷ began past else began past) counts
unfolding in_use pending now
taken c size past counts all true = uncounted past (Taken c size ∷ began past) counts (record { uses = refl; waiting = refl; time = refl; forwarded = refl; answered = refl; expired = refl; late = refl; shares = refl }) all
taken c size past counts all false = uncounted past (began past) counts (record { uses = refl; waiting = refl; time = refl; forwarded = refl; answered = refl; expired = refl; late = refl; shares = refl }) all

modem_taken : (size : ℕ) (past : List Fact) (counts : Counts) → IsCounted past counts → IsCounted (ModemTaken size ∷ began past) counts
unfolding in_use pending now
modem_taken size past counts all = uncounted past (ModemTaken size ∷ began past) counts (record { uses = refl; waiting = refl; time = refl; forwarded = refl; answered = refl; expired = refl; late = refl; shares = refl }) all

-- ---- a client says a message ----

said_quietly : (c place : ℕ) (m x : List ℕ) (verdict : Verdict) (past after : List Fact) (asked : List ℕ) (ledger : Ledger) → is_over_share (Judged c place x verdict) ≡ false → after ≡ Judged c place x verdict ∷ began past → asked ≡ [] → opens m ≡ true
    → IsCounted past ledger.counts → IsCounted after (has_said mbim_reading c m asked ledger).counts
unfolding in_use pending now
said_quietly c place m x verdict past after asked ledger within facts none opening all =
    let judged : List Fact = Judged c place x verdict ∷ began past in
    let counts : (has_said mbim_reading c m asked ledger).counts ≡ ledger.counts =
    ap (λ (l : List ℕ). (has_said mbim_reading c m l ledger).counts) none ∙ ap (λ (b : Bool). one_refused b ledger.counts) opening in
    let shares : count is_over_share judged ≡ count is_over_share past = ap (λ (b : Bool). length (cond b (Judged c place x verdict ∷ filter is_over_share past) (filter is_over_share past))) within in
    subst (λ (l : List Fact). IsCounted l (has_said mbim_reading c m asked ledger).counts) (sym facts)
    (subst (IsCounted judged) (sym counts)
    (uncounted past judged ledger.counts (record { uses = refl; waiting = refl; time = refl; forwarded = refl; answered = refl; expired = refl; late = refl; shares = shares }) all))

query_opens_none : (cid number : ℕ) → opens (query cid number) ≡ false
query_opens_none cid number = refl

-- one that passes its client's share
said_passing : (c place : ℕ) (m : List ℕ) (past after : List Fact) (asked : List ℕ) (ledger : Ledger) → after ≡ Judged c place m Share ∷ began past → asked ≡ [] → opens m ≡ false → IsCounted past ledger.counts → IsCounted after (has_said mbim_reading c m asked ledger).counts
unfolding in_use pending now
said_passing c place m past after asked ledger facts none other all =
    let counts : (has_said mbim_reading c m asked ledger).counts ≡ one_refused false ledger.counts =
    ap (λ (l : List ℕ). (has_said mbim_reading c m l ledger).counts) none ∙ ap (λ (b : Bool). one_refused b ledger.counts) other in
    let was = all.refused in
    subst (λ (l : List Fact). IsCounted l (has_said mbim_reading c m asked ledger).counts) (sym facts)
    (subst (IsCounted (Judged c place m Share ∷ began past)) (sym counts) (record {
      waits = all.waits;
      forwarded = all.forwarded;
      answered = all.answered;
      expired = all.expired;
      late = all.late;
      refused = omega (arith, was);
    }))

-- the clock is far from its end
abbrev pub IsEarly : List Fact → Type 0
IsEarly past = now past + 1 < 2 ^ 64

waits_yet : (r : Request) (past : List Fact) → IsNext r past → IsEarly past → waits_at (now past) r ≡ true
waits_yet r past next early =
    let until : r.deadline ≡ min (now past + 30000) (2 ^ 64 - 1) = next.deadline in
    lt-ltb (now past) r.deadline (omega (arith, until, early))

one_more_waits : (r : Request) (past : List Fact) (counts : Counts) → waits_at (now past) r ≡ true → IsCounted past counts → pending past ++ r ∷ [] ≡ filter (waits_at (now past)) (in_use past ++ r ∷ [])
one_more_waits r past counts waits all =
    ap (λ (l : List Request). l ++ r ∷ []) all.waits
    ∙ sym (filter-append (waits_at (now past)) (in_use past) (r ∷ []) ∙ ap (λ (b : Bool). filter (waits_at (now past)) (in_use past) ++ cond b (r ∷ []) []) waits)

abbrev asking : (c place : ℕ) → (x : List ℕ) → Verdict → Request → List Fact → List Fact
asking c place x verdict r past = Forwarded r ∷ Judged c place x verdict ∷ began past

command_counted : (c place : ℕ) (x : List ℕ) (r : Request) (past : List Fact) (counts : Counts) → (r.conn == 0) ≡ false → waits_at (now past) r ≡ true → IsCounted past counts
    → IsCounted (asking c place x Forward r past) (one_forwarded false counts)
unfolding in_use pending now
command_counted c place x r past counts client waits all = record {
  waits = one_more_waits r past counts waits all;
  forwarded =
      ap (λ (n : ℕ). n + 1) all.forwarded
      ∙ (let one : count is_forwarded past + 1 ≡ suc (count is_forwarded past) = omega arith in one)
      ∙ ap (λ (b : Bool). length (cond (not b) (Forwarded r ∷ filter is_forwarded past) (filter is_forwarded past))) (sym client);
  answered = all.answered;
  expired = all.expired;
  late = all.late;
  refused = all.refused;
}

own_counted : (c place : ℕ) (x : List ℕ) (r : Request) (past : List Fact) (counts : Counts) → (r.conn == 0) ≡ true → waits_at (now past) r ≡ true → IsCounted past counts → IsCounted (asking c place x Waits r past) (one_forwarded true counts)
unfolding in_use pending now
own_counted c place x r past counts own waits all = record {
  waits = one_more_waits r past counts waits all;
  forwarded = all.forwarded ∙ ap (λ (b : Bool). length (cond (not b) (Forwarded r ∷ filter is_forwarded past) (filter is_forwarded past))) (sym own);
  answered = all.answered;
  expired = all.expired;
  late = all.late;
  refused = all.refused;
}

asked_counts : (c : ℕ) (m asked : List ℕ) (r : Request) (ledger : Ledger) → asked ≡ wire setup r → Starts (wire setup r) → (has_said mbim_reading c m asked ledger).counts ≡ one_forwarded (is_open (wire setup r)) ledger.counts
asked_counts c m asked r ledger bytes starts =
    ap (λ (l : List ℕ). (has_said mbim_reading c m l ledger).counts) bytes ∙ ap (λ (l : Ledger). l.counts) (says_some c m (wire setup r) ledger starts.byte starts.rest starts.is)

said : (c : ℕ) (m : List ℕ) (past after : List Fact) (asked : List ℕ) (ledger : Ledger) → HasSaid c m past after → asked ≡ new_bytes past after → IsEarly past → IsCounted past ledger.counts → IsCounted after (has_said mbim_reading c m asked ledger).counts
said c m past after asked ledger (naming is) bytes early all =
    said_quietly c _ m configuration Own past after asked ledger refl is.facts (bytes ∙ is.new) (ap opens is.is) all
said c m past after asked ledger (finding is) bytes early all =
    said_quietly c _ m open_2 Ready past after asked ledger refl is.facts (bytes ∙ is.new) (ap opens is.is) all
said c m past after asked ledger (having_opened is) bytes early all =
    let r : Request = is.r in
    let own = is.own in
    let counts : (has_said mbim_reading c m asked ledger).counts ≡ one_forwarded true ledger.counts =
    asked_counts c m asked r ledger (bytes ∙ is.new) (own_starts r own) ∙ ap (λ (l : List ℕ). one_forwarded (is_open l) ledger.counts) own.wire_is in
    subst (λ (l : List Fact). IsCounted l (has_said mbim_reading c m asked ledger).counts) (sym is.facts)
    (subst (IsCounted _) (sym counts) (own_counted c _ open_2 r past ledger.counts (eq-eqb r.conn 0 own.own) (waits_yet r past is.next early) all))
said c m past after asked ledger (querying is) bytes early all =
    let r : Request = is.r in
    let command = is.command in
    let counts : (has_said mbim_reading c m asked ledger).counts ≡ one_forwarded false ledger.counts =
    asked_counts c m asked r ledger (bytes ∙ is.new) (command_starts r command) ∙ ap (λ (l : List ℕ). one_forwarded (is_open l) ledger.counts) command.wire_is in
    subst (λ (l : List Fact). IsCounted l (has_said mbim_reading c m asked ledger).counts) (sym is.facts)
    (subst (IsCounted _) (sym counts) (command_counted c _ m r past ledger.counts command.client (waits_yet r past is.next early) all))
said c m past after asked ledger (passing is) bytes early all =
    said_passing c _ m past after asked ledger is.facts (bytes ∙ is.new) (ap opens is.is ∙ query_opens_none (cid_for is.choice) is.number) all

-- ---- the modem answers ----

abbrev answered_counts : (waits : Bool) → Counts → Counts
answered_counts waits counts = if waits then record counts { answered = counts.answered + 1 } else record counts { late = counts.late + 1 }

fewer_wait : (r : Request) (past : List Fact) (counts : Counts) → IsCounted past counts → without_request r (pending past) ≡ filter (waits_at (now past)) (without_request r (in_use past))
fewer_wait r past counts all =
    ap (without_request r) all.waits ∙ filter_swap (λ (q : Request). not (r.serial == q.serial)) (waits_at (now past)) (in_use past)

answered_counted : (r : Request) (m : List ℕ) (past : List Fact) (counts : Counts) → (r.conn == 0) ≡ false → IsCounted past counts → (waits : Bool) → IsCounted (answered_or_late waits r m (began past)) (answered_counts waits counts)
unfolding in_use pending now
answered_counted r m past counts client all true = record {
  waits = fewer_wait r past counts all;
  forwarded = all.forwarded;
  answered =
      ap (λ (n : ℕ). n + 1) all.answered
      ∙ (let one : count is_answered past + 1 ≡ suc (count is_answered past) = omega arith in one)
      ∙ ap (λ (b : Bool). length (cond (not b) (Answered r m ∷ filter is_answered past) (filter is_answered past))) (sym client);
  expired = all.expired;
  late = all.late;
  refused = all.refused;
}
answered_counted r m past counts client all false = record {
  waits = fewer_wait r past counts all;
  forwarded = all.forwarded;
  answered = all.answered;
  expired = all.expired;
  late =
      ap (λ (n : ℕ). n + 1) all.late
      ∙ (let one : count is_late past + 1 ≡ suc (count is_late past) = omega arith in one)
      ∙ ap (λ (b : Bool). length (cond (not b) (Late r ∷ filter is_late past) (filter is_late past))) (sym client);
  refused = all.refused;
}

opened_counted : (r : Request) (m : List ℕ) (past : List Fact) (counts : Counts) → (r.conn == 0) ≡ true → IsCounted past counts → IsCounted (OpeningEnded 0 (1 ∷ []) ∷ Answered r m ∷ began past) counts
unfolding in_use pending now
opened_counted r m past counts own all = record {
  waits = fewer_wait r past counts all;
  forwarded = all.forwarded;
  answered = all.answered ∙ ap (λ (b : Bool). length (cond (not b) (Answered r m ∷ filter is_answered past) (filter is_answered past))) (sym own);
  expired = all.expired;
  late = all.late;
  refused = all.refused;
}

clients_is : (r : Request) → Asked r → is_own_open r ≡ (r.conn == 0)
clients_is r is =
    ⊎_elim (λ (command : IsCommand r). command.command ∙ sym command.client) (λ (own : IsOwnOpen r). own.opens ∙ sym (eq-eqb r.conn 0 own.own)) is.kind

module _ (events : List Event) where
  abbrev facts : List Fact
  facts = history setup events

  all_differ : AllPairs Differ (in_use facts)
  all_differ = in_use_differ setup.limits no_more facts (histories_are_sound setup events)

  waits_until : (counts : Counts) → IsCounted facts counts → (r : Request) → Contains (in_use facts) r → is_pending r facts ≡ waits_at (now facts) r
  waits_until counts all r at =
      ap (has_request r) all.waits
      ∙ All-contains (λ (q : Request). has_request q (filter (waits_at (now facts)) (in_use facts)) ≡ waits_at (now facts) q) (in_use facts) r
      (All-from_recursion (λ (q : Request). has_request q (filter (waits_at (now facts)) (in_use facts)) ≡ waits_at (now facts) q) (in_use facts) (passes_among (waits_at (now facts)) (in_use facts) all_differ)) at

  heard : (m : List ℕ) (after : List Fact) (ledger : Ledger) → Reflects facts ledger → IsCounted facts ledger.counts → HasHeard m facts after → IsCounted after (has_answered (first_with (key_of m) ledger.rows) ledger).counts
  heard m after ledger reflect all (answering is) =
      let r : Request = is.r in
      let command = is.suits.command in
      let at : Contains (in_use facts) r = subst (λ (l : List Request). Contains l r) (sym is.uses) (Contains-append_right is.before (r ∷ is.behind) r (zero, omega arith, refl)) in
      let asked : Asked r = All-contains Asked (in_use facts) r (All-from_recursion Asked (in_use facts) reflect.asked) at in
      let client : (r.conn == 0) ≡ false = sym (clients_is r asked) ∙ command in
      let waits : is_pending r facts ≡ nat_lt ledger.time r.deadline = waits_until ledger.counts all r at ∙ ap (λ (time : ℕ). nat_lt time r.deadline) (sym reflect.mirrors.time) in
      let counts : (has_answered (first_with (key_of m) ledger.rows) ledger).counts ≡ answered_counts (is_pending r facts) ledger.counts =
      ap (λ (o : Option Row). (has_answered o ledger).counts) (answer_finds events m after ledger reflect is)
      ∙ ap (λ (b : Bool). if b then ledger.counts else answered_counts (nat_lt ledger.time r.deadline) ledger.counts) command
      ∙ ap (λ (b : Bool). answered_counts b ledger.counts) (sym waits) in
      subst (λ (l : List Fact). IsCounted l (has_answered (first_with (key_of m) ledger.rows) ledger).counts) (sym is.facts)
      (subst (IsCounted (answered_or_late (is_pending r facts) r m (began facts))) (sym counts) (answered_counted r m facts ledger.counts client all (is_pending r facts)))
  heard m after ledger reflect all (ending is) =
      let r : Request = is.r in
      let counts : (has_answered (first_with (key_of m) ledger.rows) ledger).counts ≡ ledger.counts =
      ap (λ (o : Option Row). (has_answered o ledger).counts) (opening_finds events m after ledger reflect is)
      ∙ ap (λ (b : Bool). if b then ledger.counts else answered_counts (nat_lt ledger.time r.deadline) ledger.counts) is.opens in
      subst (λ (l : List Fact). IsCounted l (has_answered (first_with (key_of m) ledger.rows) ledger).counts) (sym is.facts)
      (subst (IsCounted (OpeningEnded 0 (1 ∷ []) ∷ Answered r m ∷ began facts)) (sym counts) (opened_counted r m facts ledger.counts (eq-eqb r.conn 0 is.own) all))

-- ---- the time goes on ----

later_test : (before shown until : ℕ) → before ≤ shown → nat_lt shown until ≡ (nat_lt before until && not (nat_le until shown))
later_test before shown until order = by (nat_lt shown until) (nat_lt before until) (nat_le until shown) refl refl refl
  where
    by : (a b c : Bool) → nat_lt shown until ≡ a → nat_lt before until ≡ b → nat_le until shown ≡ c → a ≡ (b && not c)
    by true true false e f g = refl
    by false true true e f g = refl
    by false false c e f g = refl
    by true false c e f g = absurd (grind (arith, nat_tests, e, f, order))
    by true true true e f g = absurd (grind (arith, nat_tests, e, g))
    by false true false e f g = absurd (grind (arith, nat_tests, e, g))

in_order : (a b c : Bool) → (not a && b && c) ≡ (b && c && not a)
in_order true true true = refl
in_order true true false = refl
in_order true false c = refl
in_order false true true = refl
in_order false true false = refl
in_order false false c = refl

-- as many rows expire as requests of clients
expire_alike : (before shown : ℕ) (requests : List Request) → AllByRecursion Asked requests
    → length (filter (expires before shown) (map (row_of 1) requests)) ≡ length (filter (λ r. not (r.conn == 0)) (due shown (filter (waits_at before) requests)))
expire_alike before shown requests asked =
    let expiring : Request → Bool = λ r. expires before shown (row_of 1 r) in
    let in_time : Request → Bool = λ r. waits_at before r && nat_le r.deadline shown in
    let of_clients : Request → Bool = λ r. waits_at before r && nat_le r.deadline shown && not (r.conn == 0) in
    let both : filter (λ (r : Request). not (r.conn == 0)) (due shown (filter (waits_at before) requests)) ≡ filter of_clients requests =
    ap (filter (λ (r : Request). not (r.conn == 0))) (filter_both (λ (r : Request). nat_le r.deadline shown) (waits_at before) in_time (λ r. refl) requests)
    ∙ filter_both (λ (r : Request). not (r.conn == 0)) in_time of_clients (λ r. refl) requests in
    let same : filter expiring requests ≡ filter of_clients requests =
    filter_agree expiring of_clients requests
    (all_weaker Asked (λ (r : Request). expiring r ≡ of_clients r) (λ r is. in_order (is_own_open r) (waits_at before r) (nat_le r.deadline shown) ∙ ap (λ (b : Bool). waits_at before r && nat_le r.deadline shown && not b) (clients_is r is)) requests asked) in
    ap length (filter_map_is (expires before shown) (row_of 1) requests) ∙ length-map (filter expiring requests) (row_of 1) ∙ ap length (same ∙ sym both)

module _ (time : ℕ) (events : List Event) (ledger : Ledger) (reflect : Reflects (history setup events) ledger) (all : IsCounted (history setup events) ledger.counts) where
  abbrev before : List Fact
  before = history setup events

  abbrev shown : ℕ
  shown = max time (now before)

  abbrev clocked : List Fact
  clocked = TimeIs shown ∷ began before

  abbrev is_due : Request → Bool
  is_due r = nat_le r.deadline shown

  abbrev gone : List Request
  gone = due shown (pending before)

  abbrev of_client : Request → Bool
  of_client r = not (r.conn == 0)

  waiting_differ : AllPairs Differ (pending before)
  waiting_differ = subst (AllPairs Differ) (sym all.waits) (AllPairs-filter Differ (waits_at (now before)) (in_use before) (all_differ events))

  each_is_gone : expired_by gone clocked ≡ expired_onto gone clocked
  unfolding pending
  each_is_gone = each_expires gone clocked (AllPairs-filter Differ is_due (pending before) waiting_differ) (passing_wait is_due clocked waiting_differ)

  still_waiting : pending (expired_by gone clocked) ≡ filter (λ r. not (is_due r)) (pending before)
  unfolding pending
  still_waiting = ap pending each_is_gone ∙ expired_waiting is_due clocked waiting_differ

  abbrev many_gone : ℕ
  many_gone = length (filter of_client gone)

  rows_expire : length (filter (expires ledger.time (max time ledger.time)) ledger.rows) ≡ many_gone
  rows_expire =
      ap₂ (λ (at : ℕ) (rows : List Row). length (filter (expires at (max time at)) rows)) reflect.mirrors.time reflect.mirrors.rows
      ∙ expire_alike (now before) shown (in_use before) reflect.asked
      ∙ ap (λ (l : List Request). length (filter of_client (due shown l))) (sym all.waits)

  left : (test : Fact → Bool) → ((r : Request) → test (Expired r) ≡ false) → count test (expired_by gone clocked) ≡ count test clocked
  left test none = ap (count test) each_is_gone ∙ expired_leave test none gone clocked

  passed : IsCounted (expired_by gone clocked) (has_passed time ledger).counts
  unfolding in_use now
  passed =
      let same = expired_same gone clocked in
      let more : count is_expired (expired_by gone clocked) ≡ many_gone + count is_expired before = ap (count is_expired) each_is_gone ∙ expired_count gone clocked in
      let was = all.expired in
      let rows = rows_expire in
      record {
        waits =
            still_waiting
            ∙ ap (filter (λ (r : Request). not (is_due r))) all.waits
            ∙ filter_both (λ (r : Request). not (is_due r)) (waits_at (now before)) (waits_at shown) (λ r. later_test (now before) shown r.deadline (omega arith)) (in_use before)
            ∙ ap₂ (λ (at : ℕ) (requests : List Request). filter (waits_at at) requests) (sym same.time) (sym same.uses);
        forwarded = all.forwarded ∙ sym (left is_forwarded (λ r. refl));
        answered = all.answered ∙ sym (left is_answered (λ r. refl));
        expired = omega (arith, more, was, rows);
        late = all.late ∙ sym (left is_late (λ r. refl));
        refused = all.refused ∙ sym (left is_over_share (λ r. refl));
      }

-- ---- every event ----

event_counted : (event : Event) (events : List Event) (ledger : Ledger) → Adds event (history setup events) (history setup (event ∷ events)) → IsEarly (history setup events) → Reflects (history setup events) ledger → IsCounted (history setup events) ledger.counts
    → IsCounted (history setup (event ∷ events)) (follow mbim_reading event (asked_by (proxy_of setup) event events) ledger).counts
event_counted (Joined c) events ledger adds early reflect all = subst (λ (l : List Fact). IsCounted l ledger.counts) (sym adds.facts) (joined c (history setup events) ledger.counts all)
event_counted (Piece c m) events ledger adds early reflect all =
    said c m (history setup events) (history setup (Piece c m ∷ events)) (asked_by (proxy_of setup) (Piece c m) events) ledger adds.1 refl early all
event_counted (ModemPiece m) events ledger adds early reflect all = heard events m (history setup (ModemPiece m ∷ events)) ledger reflect all adds
event_counted (Now time) events ledger adds early reflect all = subst (λ (l : List Fact). IsCounted l (has_passed time ledger).counts) (sym adds) (passed time events ledger reflect all)
event_counted (Took c size) events ledger adds early reflect all = subst (λ (l : List Fact). IsCounted l ledger.counts) (sym adds) (taken c size (history setup events) ledger.counts all (is_present c (history setup events)))
event_counted (ModemTook size) events ledger adds early reflect all = subst (λ (l : List Fact). IsCounted l ledger.counts) (sym adds) (modem_taken size (history setup events) ledger.counts all)
event_counted (Left c) events ledger adds early reflect all = absurd adds
event_counted ModemGone events ledger adds early reflect all = absurd adds
event_counted ModemBack events ledger adds early reflect all = absurd adds

none_counted : IsCounted (history setup []) empty.counts
unfolding proxy.history in_use pending now
none_counted = record { waits = refl; forwarded = refl; answered = refl; expired = refl; late = refl; refused = refl }

-- ---- the clock never goes back ----

pub said_time : (c : ℕ) (m asked : List ℕ) (ledger : Ledger) → (has_said mbim_reading c m asked ledger).time ≡ ledger.time
said_time c m [] ledger = refl
said_time c m (byte ∷ asked) ledger = refl

pub answered_time : (first : Option Row) (ledger : Ledger) → (has_answered first ledger).time ≡ ledger.time
answered_time None ledger = refl
answered_time (Some row) ledger = refl

time_grows : (event : Event) (asked : List ℕ) (ledger : Ledger) → ledger.time ≤ (follow mbim_reading event asked ledger).time
time_grows (Joined c) asked ledger = omega arith
time_grows (Piece c m) asked ledger = let same = said_time c m asked ledger in omega (arith, same)
time_grows (ModemPiece m) asked ledger = let same = answered_time (first_with (key_of m) ledger.rows) ledger in omega (arith, same)
time_grows (Now time) asked ledger = omega arith
time_grows (Took c size) asked ledger = omega arith
time_grows (ModemTook size) asked ledger = omega arith
time_grows (Left c) asked ledger = omega arith
time_grows ModemGone asked ledger = omega arith
time_grows ModemBack asked ledger = omega arith

-- while it is far from its end, the counts are those of the facts
pub counted : (events : List Event) → AreMoments events → IsEarly (history setup events) → IsCounted (history setup events) (ledger_of mbim_reading (proxy_of setup) events).counts
unfolding ledger_of
counted [] moments early = none_counted
counted (event ∷ events) moments early =
    let ledger : Ledger = ledger_of mbim_reading (proxy_of setup) events in
    let reflect : Reflects (history setup events) ledger = reflects events moments.1 in
    let was : ledger.time ≡ now (history setup events) = reflect.mirrors.time in
    let is : (follow mbim_reading event (asked_by (proxy_of setup) event events) ledger).time ≡ now (history setup (event ∷ events)) = (reflects (event ∷ events) moments).mirrors.time in
    let grows = time_grows event (asked_by (proxy_of setup) event events) ledger in
    let early_before : IsEarly (history setup events) = omega (arith, was, is, grows, early) in
    event_counted event events ledger moments.0.adds early_before reflect (counted events moments.1 early_before)
