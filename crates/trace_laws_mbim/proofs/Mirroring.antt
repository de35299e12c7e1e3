-- The ledger of a rig's events mirrors their facts. Lists of events and of facts have the newest first.
use Rattle.std.proofs.Common.{◌≡◌, ◌≢◌, ℕ, zero, ◌+◌, ◌<◌, ◌≤◌, max, Bool, true, false, not, ◌==◌, if◌then◌else◌, List, [], ◌∷◌, ◌++◌, length, drop, map, slice_index_or, Option, Some, inl, inr, refl, ap, sym, ◌∙◌, arith, subst, Contains}
use Rattle.std.specs.List.{AllByRecursion}
use Rattle.std.proofs.lemmas.Bool.Decides.{nat_tests}
use Rattle.std.proofs.lemmas.Grind.{get_or-set_at}
use Rattle.std.proofs.lemmas.List.{get_or-set_other, get_or-replicate, length-set, length-replicate, map-append}
use Rattle.std.proofs.lemmas.List.Elements.{Contains-append_right}
use Rattle.kit_bytes.proofs.Lists.{all_filter, all_push}
use Rattle.mbim_frame.specs.Head.{number_of}
use Rattle.proxy_history.specs.Events.{Event, Joined, Piece, Left, ModemPiece, ModemGone, ModemBack, Now, Took, ModemTook}
use Rattle.proxy_history.specs.Facts.{Fact, Request, Verdict, Forward, Own, Share, Ready, Waits, Admitted, Judged, Taken, Forwarded, Answered, Expired, OpeningEnded, ModemTaken, TimeIs}
use Rattle.proxy_history.specs.Connections.{is_present, message_count}
use Rattle.proxy_history.specs.Requests.{in_use, pending, is_pending, forward_count, without_request, deadline_of}
use Rattle.proxy_history.specs.Modem.{now}
use Rattle.proxy_history.specs.History as proxy
use Rattle.proxy_history.specs.Unanswered.{due}
use Rattle.proxy_history.proofs.Noted.{kept_by_each}
use Rattle.proxy_solo.proofs.Lists.{every}
use Rattle.mbim_proxy.specs.Setup.{the_space}
use Rattle.mbim_proxy.specs.ModemStates.{is_own_open}
use Rattle.mbim_proxy.specs.Forwarding.{wire}
use Rattle.mbim_proxy.specs.FromModem.{IsDone, IsOpenDone, is_answered_by}
use Rattle.mbim_proxy.specs.Proxy.{proxy_of}
use Rattle.mbim_proxy.specs.History.{history}
use Rattle.mbim_proxy.proofs.Sound.{histories_are_sound}
use Rattle.rig_runs.specs.Rig.{time_limit}
use Rattle.rig_runs.specs.Mbim.{setup}
use Rattle.rig_runs.specs.MbimExamples.{configuration, open_2}
use Rattle.rig_laws_mbim.proofs.Messages.{query, cid_for, answer_number_is, own_open_under, opened_number_is}
use Rattle.rig_laws_mbim.proofs.Hears.{answered_or_late, found, is_its_answer, ends_it}
use Rattle.rig_laws_mbim.proofs.Adding.{began, new_bytes, IsNext, IsCommand, IsOwnOpen, IsNamed, HasSaid, naming, finding, having_opened, querying, passing, Answers, IsOpened, HasHeard, answering, ending, Joins, Passes, expired_by, Adds, AreMoments}
use Rattle.rig_laws_mbim.proofs.Events.{placed}
use Rattle.rig_trace.specs.declared.rows.Row.{Row}
use Rattle.rig_trace.specs.Rows.{Ledger, names, empty, said_by, more_said, row_for, one_forwarded, has_said, has_answered, has_passed, follow, first_with, without_row, asked_by, ledger_of}
use Rattle.rig_trace.specs.Mbim.{key_of, is_open, mbim_reading}
use Rattle.rig_trace.specs.Laws.{Mirrors, AllMirror}
use Rattle.rig_trace.proofs.Numbers.{no_more_said}
use Rattle.trace_laws_mbim.specs.Laws.{row_of}
use Rattle.trace_laws_mbim.proofs.Rows.{Asked, answer_key, opened_key, done_is_found, open_done_is_found, others_stay}

-- the ledger mirrors the facts, and the modem was asked each request in use
pub record Reflects (past : List Fact) (ledger : Ledger) : Type 0 where
  pub mirrors : Mirrors (row_of 1) past ledger
  pub asked : AllByRecursion Asked (in_use past)

-- ---- facts that leave all this as it is ----

pub record IsSame (past after : List Fact) : Type 0 where
  pub uses : in_use after ≡ in_use past
  pub count : forward_count after ≡ forward_count past
  pub said : (c : ℕ) → message_count c after ≡ message_count c past
  pub time : now after ≡ now past

same_reflects : (past after : List Fact) (ledger : Ledger) → IsSame past after → Reflects past ledger → Reflects after ledger
same_reflects past after ledger same all =
    let m = all.mirrors in
    record {
      mirrors = record {
        rows = m.rows ∙ ap (map (row_of 1)) (sym same.uses);
        asked = m.asked ∙ sym same.count;
        time = m.time ∙ sym same.time;
        names_are = m.names_are;
        said = λ c low. m.said c low ∙ sym (same.said c);
      };
      asked = subst (AllByRecursion Asked) (sym same.uses) all.asked;
    }

joined : (c : ℕ) (past after : List Fact) (ledger : Ledger) → Joins c past after → Reflects past ledger → Reflects after ledger
unfolding in_use forward_count message_count now
joined c past after ledger joins all =
    subst (λ (l : List Fact). Reflects l ledger) (sym joins.facts)
    (same_reflects past (Admitted c ∷ began past) ledger (record { uses = refl; count = refl; said = λ d. no_more_said c d (λ e. message_count e past) joins.count; time = refl }) all)

taken : (c count : ℕ) (past : List Fact) (ledger : Ledger) → Reflects past ledger → (b : Bool) → Reflects (if b then Taken c count ∷ began past else began past) ledger
unfolding in_use forward_count message_count now
taken c count past ledger all true = same_reflects past (Taken c count ∷ began past) ledger (record { uses = refl; count = refl; said = λ d. refl; time = refl }) all
taken c count past ledger all false = same_reflects past (began past) ledger (record { uses = refl; count = refl; said = λ d. refl; time = refl }) all

modem_taken : (count : ℕ) (past : List Fact) (ledger : Ledger) → Reflects past ledger → Reflects (ModemTaken count ∷ began past) ledger
unfolding in_use forward_count message_count now
modem_taken count past ledger all = same_reflects past (ModemTaken count ∷ began past) ledger (record { uses = refl; count = refl; said = λ d. refl; time = refl }) all

-- ---- the time goes on ----

pub expired_same : (requests : List Request) (past : List Fact) → IsSame past (expired_by requests past)
unfolding in_use forward_count message_count now
expired_same requests past =
    kept_by_each (IsSame past) (λ (r : Request). Unit {0}) (λ r before. Expired r ∷ before) (λ r before u same. record { uses = same.uses; count = same.count; said = same.said; time = same.time }) requests past (every (λ (r : Request). Unit {0}) (λ r. tt) requests)
    (record { uses = refl; count = refl; said = λ c. refl; time = refl })

passed : (time : ℕ) (past after : List Fact) (ledger : Ledger) → Passes time past after → Reflects past ledger → Reflects after (has_passed time ledger)
unfolding in_use forward_count message_count now
passed time past after ledger passes all =
    let shown : ℕ = max time (now past) in
    let clocked : List Fact = TimeIs shown ∷ began past in
    let m = all.mirrors in
    let at_time : Reflects clocked (has_passed time ledger) = record {
      mirrors = record { rows = m.rows; asked = m.asked; time = ap (max time) m.time; names_are = m.names_are; said = m.said };
      asked = all.asked;
    }
    in
    subst (λ (l : List Fact). Reflects l (has_passed time ledger)) (sym passes) (same_reflects clocked (expired_by (due shown (pending past)) clocked) (has_passed time ledger) (expired_same (due shown (pending past)) clocked) at_time)

-- ---- a client says a message ----

more_is_said : (c : ℕ) (past : List Fact) (ledger : Ledger) → c ≤ 64 → Mirrors (row_of 1) past ledger → (d : ℕ) → d < names → slice_index_or (more_said c ledger) d 0 ≡ (if c == d then message_count d past + 1 else message_count d past)
more_is_said c past ledger few m d low = by (c == d) refl
  where
    long : length ledger.said ≡ 65
    long = m.names_are

    by : (b : Bool) → (c == d) ≡ b → slice_index_or (more_said c ledger) d 0 ≡ (if b then message_count d past + 1 else message_count d past)
    by true e =
        let same : d ≡ c = grind (arith, nat_tests, e) in
        get_or-set_at ledger.said c d (said_by c ledger + 1) 0 same (omega (arith, few, long)) ∙ ap (λ (n : ℕ). n + 1) (m.said c (omega (arith, few))) ∙ ap (λ (x : ℕ). message_count x past + 1) (sym same)
    by false e =
        let other : d ≢ c = λ same. absurd (grind (arith, nat_tests, e, same)) in
        get_or-set_other ledger.said c d (said_by c ledger + 1) 0 other ∙ m.said d low

-- where the modem is asked nothing
said_quietly : (c : ℕ) (m x : List ℕ) (verdict : Verdict) (past after : List Fact) (asked : List ℕ) (ledger : Ledger) → c ≤ 64 → after ≡ Judged c (message_count c past + 1) x verdict ∷ began past → asked ≡ [] → Reflects past ledger
    → Reflects after (has_said mbim_reading c m asked ledger)
unfolding in_use forward_count message_count now
said_quietly c m x verdict past after asked ledger few facts none all =
    let mirrors = all.mirrors in
    let judged : List Fact = Judged c (message_count c past + 1) x verdict ∷ began past in
    let quiet : Reflects judged (has_said mbim_reading c m [] ledger) = record {
      mirrors = record { rows = mirrors.rows; asked = mirrors.asked; time = mirrors.time; names_are = length-set ledger.said c (said_by c ledger + 1) ∙ mirrors.names_are; said = more_is_said c past ledger few mirrors };
      asked = all.asked;
    }
    in
    subst (λ (l : List Fact). Reflects l (has_said mbim_reading c m asked ledger)) (sym facts) (subst (λ (l : List ℕ). Reflects judged (has_said mbim_reading c m l ledger)) (sym none) quiet)

-- it is asked something
pub record Starts (bytes : List ℕ) : Type 0 where
  pub byte : ℕ
  pub rest : List ℕ
  pub is : bytes ≡ byte ∷ rest

abbrev pub asked_ledger : ℕ → List ℕ → Ledger → Ledger
asked_ledger c asked ledger = record ledger {
  rows = ledger.rows ++ row_for mbim_reading c asked ledger ∷ [];
  asked = ledger.asked + 1;
  said = more_said c ledger;
  counts = one_forwarded (is_open asked) ledger.counts;
}

pub says_some : (c : ℕ) (m asked : List ℕ) (ledger : Ledger) (byte : ℕ) (rest : List ℕ) → asked ≡ byte ∷ rest → has_said mbim_reading c m asked ledger ≡ asked_ledger c asked ledger
says_some c m [] ledger byte rest is = absurd (cc)
says_some c m (b ∷ asked) ledger byte rest is = refl

pub command_starts : (r : Request) → IsCommand r → Starts (wire setup r)
command_starts r command = subst Starts (sym command.wire_is) (record { byte = 3; rest = drop 1 (query (cid_for command.choice) r.number); is = refl })

pub own_starts : (r : Request) → IsOwnOpen r → Starts (wire setup r)
own_starts r own = subst Starts (sym own.wire_is) (record { byte = 1; rest = drop 1 (own_open_under r.number); is = refl })

abbrev row_with : Request → (serial conn place : ℕ) → (own : Bool) → (deadline : ℕ) → Row
row_with r serial conn place own deadline = record { serial = serial; conn = conn; place = place; key = key_of (wire setup r); own = own; deadline = deadline }

module _ (c : ℕ) (past : List Fact) (ledger : Ledger) (few : c ≤ 64) (all : Reflects past ledger) (r : Request) (next : IsNext r past) where
  row_is : is_open (wire setup r) ≡ is_own_open r → c ≡ (if is_own_open r then 1 else r.conn) → message_count c past + 1 ≡ (if is_own_open r then 2 else r.place) → row_for mbim_reading c (wire setup r) ledger ≡ row_of 1 r
  row_is own conn place =
      let m = all.mirrors in
      let deadline : ℕ = deadline_of ledger.time time_limit in
      ap (λ (n : ℕ). row_with r (n + 1) c (said_by c ledger + 1) (is_open (wire setup r)) deadline) m.asked
      ∙ ap (λ (n : ℕ). row_with r n c (said_by c ledger + 1) (is_open (wire setup r)) deadline) (sym next.serial)
      ∙ ap (λ (n : ℕ). row_with r r.serial c (n + 1) (is_open (wire setup r)) deadline) (m.said c (omega (arith, few)))
      ∙ ap (λ (n : ℕ). row_with r r.serial n (message_count c past + 1) (is_open (wire setup r)) deadline) conn
      ∙ ap (λ (n : ℕ). row_with r r.serial (if is_own_open r then 1 else r.conn) n (is_open (wire setup r)) deadline) place
      ∙ ap (λ (b : Bool). row_with r r.serial (if is_own_open r then 1 else r.conn) (if is_own_open r then 2 else r.place) b deadline) own
      ∙ ap (λ (n : ℕ). row_with r r.serial (if is_own_open r then 1 else r.conn) (if is_own_open r then 2 else r.place) (is_own_open r) (deadline_of n time_limit)) m.time
      ∙ ap (λ (n : ℕ). row_with r r.serial (if is_own_open r then 1 else r.conn) (if is_own_open r then 2 else r.place) (is_own_open r) n) (sym next.deadline)

  said_asking : (m x : List ℕ) (verdict : Verdict) (after : List Fact) (asked : List ℕ) → after ≡ Forwarded r ∷ Judged c (message_count c past + 1) x verdict ∷ began past → asked ≡ wire setup r → Starts (wire setup r) → Asked r
      → row_for mbim_reading c (wire setup r) ledger ≡ row_of 1 r → Reflects after (has_said mbim_reading c m asked ledger)
  unfolding in_use forward_count message_count now
  said_asking m x verdict after asked facts bytes starts is row =
      let mirrors = all.mirrors in
      let judged : List Fact = Forwarded r ∷ Judged c (message_count c past + 1) x verdict ∷ began past in
      let more : Reflects judged (asked_ledger c (wire setup r) ledger) = record {
        mirrors = record {
          rows =
              ap (λ (row : Row). ledger.rows ++ row ∷ []) row
              ∙ ap (λ (rows : List Row). rows ++ row_of 1 r ∷ []) mirrors.rows
              ∙ sym (map-append (row_of 1) (in_use past) (r ∷ []));
          asked = ap (λ (n : ℕ). n + 1) mirrors.asked;
          time = mirrors.time;
          names_are = length-set ledger.said c (said_by c ledger + 1) ∙ mirrors.names_are;
          said = more_is_said c past ledger few mirrors;
        };
        asked = all_push Asked (in_use past) r all.asked is;
      }
      in
      subst (λ (l : List Fact). Reflects l (has_said mbim_reading c m asked ledger)) (sym facts)
      (subst (λ (l : List ℕ). Reflects judged (has_said mbim_reading c m l ledger)) (sym bytes)
      (subst (Reflects judged) (sym (says_some c m (wire setup r) ledger starts.byte starts.rest starts.is)) more))

said : (c : ℕ) (m : List ℕ) (past after : List Fact) (asked : List ℕ) (ledger : Ledger) → IsNamed c past → HasSaid c m past after → asked ≡ new_bytes past after → Reflects past ledger → Reflects after (has_said mbim_reading c m asked ledger)
said c m past after asked ledger one (naming is) bytes all = said_quietly c m configuration Own past after asked ledger one.few is.facts (bytes ∙ is.new) all
said c m past after asked ledger one (finding is) bytes all = said_quietly c m open_2 Ready past after asked ledger one.few is.facts (bytes ∙ is.new) all
said c m past after asked ledger one (having_opened is) bytes all =
    let own = is.own in
    let count = is.count in
    let row = row_is c past ledger one.few all is.r is.next (ap is_open own.wire_is ∙ sym own.opens) (is.first ∙ ap (λ (b : Bool). if b then 1 else is.r.conn) (sym own.opens))
    ((let two : message_count c past + 1 ≡ 2 = omega (arith, count) in two) ∙ ap (λ (b : Bool). if b then 2 else is.r.place) (sym own.opens)) in
    said_asking c past ledger one.few all is.r is.next m open_2 Waits after asked is.facts (bytes ∙ is.new) (own_starts is.r own) (record { below = is.next.below; kind = inr own }) row
said c m past after asked ledger one (querying is) bytes all =
    let command = is.command in
    let row = row_is c past ledger one.few all is.r is.next (ap is_open command.wire_is ∙ sym command.command) (sym is.sender ∙ ap (λ (b : Bool). if b then 1 else is.r.conn) (sym command.command))
    (sym is.place ∙ ap (λ (b : Bool). if b then 2 else is.r.place) (sym command.command)) in
    said_asking c past ledger one.few all is.r is.next m m Forward after asked is.facts (bytes ∙ is.new) (command_starts is.r command) (record { below = is.next.below; kind = inl command }) row
said c m past after asked ledger one (passing is) bytes all = said_quietly c m m Share past after asked ledger one.few is.facts (bytes ∙ is.new) all

-- ---- the modem answers ----

-- a request is in use no more
record IsOut (r : Request) (past after : List Fact) : Type 0 where
  uses : in_use after ≡ without_request r (in_use past)
  count : forward_count after ≡ forward_count past
  spoke : (c : ℕ) → message_count c after ≡ message_count c past
  time : now after ≡ now past

out_reflects : (r : Request) (past after : List Fact) (first : Option Row) (ledger : Ledger) → first ≡ Some (row_of 1 r) → IsOut r past after → Reflects past ledger → Reflects after (has_answered first ledger)
out_reflects r past after first ledger is out all =
    let m = all.mirrors in
    let gone : Reflects after (has_answered (Some (row_of 1 r)) ledger) = record {
      mirrors = record {
        rows = ap (without_row (row_of 1 r)) m.rows ∙ others_stay 1 r (in_use past) ∙ ap (map (row_of 1)) (sym out.uses);
        asked = m.asked ∙ sym out.count;
        time = m.time ∙ sym out.time;
        names_are = m.names_are;
        said = λ c low. m.said c low ∙ sym (out.spoke c);
      };
      asked = subst (AllByRecursion Asked) (sym out.uses) (all_filter Asked (λ (q : Request). not (r.serial == q.serial)) (in_use past) all.asked);
    }
    in
    subst (λ (o : Option Row). Reflects after (has_answered o ledger)) (sym is) gone

answered_out : (r : Request) (m : List ℕ) (past : List Fact) (waits : Bool) → IsOut r past (answered_or_late waits r m (began past))
unfolding in_use forward_count message_count now
answered_out r m past true = record { uses = refl; count = refl; spoke = λ c. refl; time = refl }
answered_out r m past false = record { uses = refl; count = refl; spoke = λ c. refl; time = refl }

opened_out : (r : Request) (m : List ℕ) (past : List Fact) → IsOut r past (OpeningEnded 0 (1 ∷ []) ∷ Answered r m ∷ began past)
unfolding in_use forward_count message_count now
opened_out r m past = record { uses = refl; count = refl; spoke = λ c. refl; time = refl }

module _ (events : List Event) where
  abbrev facts : List Fact
  facts = history setup events

  all_placed : (r : Request) → Contains (in_use facts) r → r.space ≡ the_space
  unfolding in_use
  all_placed r at = placed events r at

  pub answer_finds : (m : List ℕ) (after : List Fact) (ledger : Ledger) → Reflects facts ledger → (is : Answers m facts after) → first_with (key_of m) ledger.rows ≡ Some (row_of 1 is.r)
  answer_finds m after ledger all is =
      let r : Request = is.r in
      let s = is.suits in
      let at : Contains (in_use facts) r = subst (λ (l : List Request). Contains l r) (sym is.uses) (Contains-append_right is.before (r ∷ is.behind) r (zero, omega arith, refl)) in
      let answers : is_answered_by IsDone m r ≡ true = subst (λ (x : List ℕ). is_answered_by IsDone x r ≡ true) (sym s.is) (is_its_answer r s.choice s.below s.command) in
      ap (first_with (key_of m)) all.mirrors.rows
      ∙ done_is_found 1 m r.number (ap number_of s.is ∙ answer_number_is (cid_for s.choice) r.number s.below) (in_use facts) all.asked r (ap key_of s.is ∙ answer_key (cid_for s.choice) r.number s.below)
      (found facts (histories_are_sound setup events) all_placed IsDone m r at answers)

  pub opening_finds : (m : List ℕ) (after : List Fact) (ledger : Ledger) → Reflects facts ledger → (is : IsOpened m facts after) → first_with (key_of m) ledger.rows ≡ Some (row_of 1 is.r)
  opening_finds m after ledger all is =
      let r : Request = is.r in
      let at : Contains (in_use facts) r = subst (λ (l : List Request). Contains l r) (sym is.uses) (zero, omega arith, refl) in
      let answers : is_answered_by IsOpenDone m r ≡ true = subst (λ (x : List ℕ). is_answered_by IsOpenDone x r ≡ true) (sym is.is) (ends_it r is.below is.own is.opens) in
      ap (first_with (key_of m)) all.mirrors.rows
      ∙ open_done_is_found 1 m r.number (ap number_of is.is ∙ opened_number_is r.number is.below) (in_use facts) all.asked r (ap key_of is.is ∙ opened_key r.number is.below)
      (found facts (histories_are_sound setup events) all_placed IsOpenDone m r at answers)

  heard : (m : List ℕ) (after : List Fact) (ledger : Ledger) → Reflects facts ledger → HasHeard m facts after → Reflects after (has_answered (first_with (key_of m) ledger.rows) ledger)
  unfolding pending
  heard m after ledger all (answering is) =
      out_reflects is.r facts after (first_with (key_of m) ledger.rows) ledger (answer_finds m after ledger all is) (subst (IsOut is.r facts) (sym is.facts) (answered_out is.r m facts (is_pending is.r facts))) all
  heard m after ledger all (ending is) =
      out_reflects is.r facts after (first_with (key_of m) ledger.rows) ledger (opening_finds m after ledger all is) (subst (IsOut is.r facts) (sym is.facts) (opened_out is.r m facts)) all

-- ---- every event ----

event_reflects : (event : Event) (events : List Event) (ledger : Ledger) → Adds event (history setup events) (history setup (event ∷ events)) → Reflects (history setup events) ledger
    → Reflects (history setup (event ∷ events)) (follow mbim_reading event (asked_by (proxy_of setup) event events) ledger)
event_reflects (Joined c) events ledger adds all = joined c (history setup events) (history setup (Joined c ∷ events)) ledger adds all
event_reflects (Piece c m) events ledger adds all =
    said c m (history setup events) (history setup (Piece c m ∷ events)) (asked_by (proxy_of setup) (Piece c m) events) ledger adds.0 adds.1 refl all
event_reflects (ModemPiece m) events ledger adds all = heard events m (history setup (ModemPiece m ∷ events)) ledger all adds
event_reflects (Now time) events ledger adds all = passed time (history setup events) (history setup (Now time ∷ events)) ledger adds all
event_reflects (Took c count) events ledger adds all = subst (λ (l : List Fact). Reflects l ledger) (sym adds) (taken c count (history setup events) ledger all (is_present c (history setup events)))
event_reflects (ModemTook count) events ledger adds all = subst (λ (l : List Fact). Reflects l ledger) (sym adds) (modem_taken count (history setup events) ledger all)
event_reflects (Left c) events ledger adds all = absurd adds
event_reflects ModemGone events ledger adds all = absurd adds
event_reflects ModemBack events ledger adds all = absurd adds

empty_reflects : Reflects (history setup []) empty
unfolding proxy.history in_use forward_count message_count now
empty_reflects = record {
  mirrors = record { rows = refl; asked = refl; time = refl; names_are = length-replicate {A = ℕ} 65 0; said = λ c low. get_or-replicate {A = ℕ} 65 c 0 0 (omega (arith, low)) };
  asked = tt;
}

pub reflects : (events : List Event) → AreMoments events → Reflects (history setup events) (ledger_of mbim_reading (proxy_of setup) events)
unfolding ledger_of
reflects [] moments = empty_reflects
reflects (event ∷ events) moments = event_reflects event events (ledger_of mbim_reading (proxy_of setup) events) moments.0.adds (reflects events moments.1)

pub all_mirror : (events : List Event) → AreMoments events → AllMirror (row_of 1) mbim_reading (proxy_of setup) (history setup) events
all_mirror [] moments = (reflects [] moments).mirrors
all_mirror (event ∷ events) moments = ((reflects (event ∷ events) moments).mirrors, all_mirror events moments.1)
