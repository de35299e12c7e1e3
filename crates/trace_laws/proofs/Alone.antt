-- What a client meets alone of the trace of plain events is what it would meet alone of the events, and so alone it takes the same bytes.
-- Lists of events and of facts have the newest first, and a trace is told in its order.
use Rattle.std.proofs.Common.{◌≡◌, ◌≢◌, ℕ, zero, suc, ◌+◌, ◌≤◌, Bool, true, false, ◌&&◌, ◌==◌, if◌then◌else◌, List, [], ◌∷◌, length, take, map, fold, refl, ap, sym, ◌∙◌, subst, arith, Option, Some, None, option_map, length-take-le}
use Rattle.std.proofs.lemmas.Bool.{eqb-true, eq-eqb}
use Rattle.std.proofs.lemmas.Bool.Decides.{nat_tests}
use Rattle.std.proofs.lemmas.List.Sums.{fold-append}
use Rattle.framing.specs.declared.framing.Size.TheVariants.{Known}
use Rattle.qmux_frame.specs.Reply.{with_number}
use Rattle.qmux_frame.specs.declared.kind.MessageKind.{MessageKind}
use Rattle.hub_io.specs.Record.{taking}
use Rattle.proxy_history.specs.Events.{Event, Joined, Piece, Left, ModemPiece, ModemGone, ModemBack, Now, Took, ModemTook}
use Rattle.proxy_history.specs.Coming.{piece_limit, queued_for}
use Rattle.proxy_history.specs.Items.{Item}
use Rattle.proxy_history.specs.Facts.{Fact, Request, EventBegan}
use Rattle.proxy_history.specs.Connections.{is_present, message_count}
use Rattle.proxy_history.specs.Requests.{in_use}
use Rattle.proxy_history.specs.Modem.{modem_queue}
use Rattle.proxy_history.specs.Rendering.{Rendering}
use Rattle.proxy_solo.specs.Answers as answers
use Rattle.proxy_solo.specs.Answers.{answer_alone}
use Rattle.proxy_solo.specs.Solo as alone
use Rattle.proxy_solo.specs.Solo.{take_all}
use Rattle.proxy_solo.proofs.Matching.{twin_of}
use Rattle.qmi_proxy.specs.Setup.{Setup}
use Rattle.qmi_proxy.specs.Clients.{wire}
use Rattle.qmi_proxy.specs.FromModem.{first_answered_by}
use Rattle.qmi_proxy.specs.Proxy.{proxy_of}
use Rattle.qmi_proxy.specs.History.{qmi_protocol, history, text_for}
use Rattle.qmi_proxy.proofs.Answered.{found_is}
use Rattle.qmi_proxy.proofs.Regulars.{histories_are_regular}
use Rattle.qmi_solo.specs.Law as qmi_law
use Rattle.qmi_solo.specs.Law.{MayCome, AreSound, IsLetAlone}
use Rattle.qmi_solo.specs.Part.{part}
use Rattle.qmi_solo.specs.Solo.{qmi_alone, solo, heard_alone}
use Rattle.qmi_solo.proofs.Fit.{Fit}
use Rattle.qmi_solo.proofs.Law.{alike_alone, alone_is_sound, histories_are_same}
use Rattle.qmi_solo.proofs.Matching.{twin_number}
use Rattle.qmi_solo.proofs.Meets.{meet, meet_if, meet_message, meet_event, meets_whole}
use Rattle.qmi_solo.proofs.Numbering.{renumbered}
use Rattle.qmi_solo.proofs.Queries.{count-part}
use Rattle.rig_runs.specs.Rig.{time_limit}
use Rattle.rig_laws.proofs.Plain.{IsSaid, IsResponse, IsPlain, ArePlain, AtEach}
use Rattle.rig_laws.proofs.Stage.{one_piece}
use Rattle.rig_trace.specs.declared.rows.Row.{Row}
use Rattle.rig_trace.specs.Rows.{Ledger, said_by, number_at, first_with, asked_by, ledger_of}
use Rattle.rig_trace.specs.declared.trace.Met.{Met}
use Rattle.rig_trace.specs.Trace.{heard_by, heard_if_unasked, met_by, taken_by, trace_of}
use Rattle.rig_trace.specs.declared.trace.Met.TheVariants.{Joins, Said, Takes, ClockShows}
use Rattle.rig_trace.specs.Alone.{meets, own_number, hears, meet_met, met_alone, IsShort}
use Rattle.rig_trace.specs.Qmi.{key_of, qmi_reading}
use Rattle.rig_trace.specs.Laws.{MeetsItsPart, TakesTheSame}
use Rattle.rig_trace.proofs.Chain.{AreSame, same_both, same_alone}
use Rattle.rig_trace.proofs.Numbers.{within_if}
use Rattle.trace_laws.specs.Laws.{row_of}
use Rattle.trace_laws.proofs.Streams.{hears_one}
use Rattle.trace_laws.proofs.Saying.{AreLong, Mirrored}
use Rattle.trace_laws.proofs.Answering.{first_row}
use Rattle.trace_laws.proofs.Mirroring.{IsWithin, here, is_mirrored}

-- ---- each moment of a client's events ----

-- nothing that it met tells of others
abbrev pub AllLetAlone : Setup → ℕ → List Event → Type 0
AllLetAlone s c events = AtEach (IsLetAlone s c) events

pub is_let_alone : (s : Setup) (c : ℕ) (events : List Event) → AllLetAlone s c events → IsLetAlone s c events
is_let_alone s c events all = here (IsLetAlone s c) events all

-- and the modem took no more than was there
all_within : (s : Setup) (events : List Event) → AreSound s events → AtEach (IsWithin s) events
all_within s [] sound = (histories_are_regular s [] sound).was_taken
all_within s (event ∷ events) sound = ((histories_are_regular s (event ∷ events) sound).was_taken, all_within s events sound.1)

-- it has met nothing alone when it joins
abbrev pub JoinsFirst : Setup → ℕ → Event → List Event → Type 0
JoinsFirst s c (Joined d) events = d ≡ c → solo s c events ≡ []
JoinsFirst s c _ events = Unit {0}

abbrev pub AllJoinFirst : Setup → ℕ → List Event → Type 0
AllJoinFirst s c [] = Unit {0}
AllJoinFirst s c (event ∷ events) = JoinsFirst s c event events × AllJoinFirst s c events

-- ---- traces ----

module _ (s : Setup) (c : ℕ) where
  abbrev pub follow_met : List Event → Met → List Event
  follow_met own met = meet_met qmi_reading (proxy_of s) c own met

-- ---- a modem that takes at once all that waits for it ----

taking_is : (count : ℕ) (own : List Event) → taking (λ n. ModemTook n) count own ≡ take_all count own
taking_is zero own = refl
taking_is (suc count) own = refl

meets_is : (s : Setup) (event : Event) (own : List Event) → meets (proxy_of s) event own ≡ meet s event own
meets_is s event own = taking_is (length (modem_queue wire (history s (event ∷ own)))) (event ∷ own)

-- ---- numbers ----

-- a row has the number of its request
number_is : (c place : ℕ) (requests : List Request) → AreLong requests → number_at c place (map row_of requests) ≡ answers.number_at c place requests
number_is c place [] all = refl
number_is c place (r ∷ requests) all =
    elim (r.conn == c && (r.place == place)) as (λ b. (if b then Some (row_of r).key.number else number_at c place (map row_of requests)) ≡ (if b then Some r.number else answers.number_at c place requests)) [
      | true ↦ ap (λ (n : ℕ). Some n) (renumbered r.number r.message all.0).number
      | false ↦ number_is c place requests all.1
    ]

-- an answer is one under any number
numbered_response : (number : ℕ) (m : List ℕ) → IsResponse m → IsResponse (with_number number m)
numbered_response number m response =
    let is = response.whole in
    let long : 12 ≤ length m = grind (arith, nat_tests) in
    let same = renumbered number m long in
    record {
      whole = same.size ∙ response.whole ∙ ap (λ (n : ℕ). Known n) (sym same.long);
      short = let count = same.long in let short = response.short in omega (arith, count, short);
      kind = same.kind ∙ response.kind;
    }

module _ (s : Setup) (there : s.starts_away ≡ false) (limit : s.time_limit ≡ time_limit) (never : s.release ≡ None) (c : ℕ) (client : c ≢ 0) where
  -- ---- a moment ----

  -- what the client met alone so far
  pub record Moment (events : List Event) : Type 0 where
    pub same : qmi_law.IsSameAlone s c (history s events) (history s (solo s c events))
    pub alike : part c (history s events) ≡ part c (history s (solo s c events))
    pub fit : Fit true c (history s (solo s c events))
    pub ledger : Mirrored (history s (solo s c events)) (ledger_of qmi_reading (proxy_of s) (solo s c events))
    pub plain : ArePlain s (solo s c events)

  mirrored : (events : List Event) → ArePlain s events → AreSound s events → Mirrored (history s events) (ledger_of qmi_reading (proxy_of s) events)
  mirrored events plain sound = is_mirrored s there limit never events (all_within s events sound) plain

  moment : (events : List Event) → IsLetAlone s c events → ArePlain s (solo s c events) → Moment events
  moment events others plain =
      let A = alike_alone s c client events others in
      record { same = histories_are_same s c events client others; alike = A.same; fit = A.alone; ledger = mirrored (solo s c events) plain (alone_is_sound s c events client others); plain = plain }

  -- the request of the client is found alone, and under the number that the ledger has
  record IsFound (events : List Event) (r : Request) : Type 0 where
    number : ℕ
    alone : answers.number_at c r.place (in_use (history s (solo s c events))) ≡ Some number
    told : own_number qmi_reading (proxy_of s) c r.place (solo s c events) ≡ Some number

  found_alone : (events : List Event) → Moment events → (m : List ℕ) (r : Request) → first_answered_by m (in_use (history s events)) ≡ Some r → (r.conn == c) ≡ true → IsFound events r
  found_alone events M m r is mine =
      let own : List Fact = history s (solo s c events) in
      let T = twin_of c (history s events) own r M.same.same.requests (found_is m (in_use (history s events)) r is).0 mine in
      let alone : answers.number_at c r.place (in_use own) ≡ Some T.request.number = twin_number c own r M.fit T in
      record { number = T.request.number; alone = alone; told = ap (number_at c r.place) M.ledger.mirrors.rows ∙ number_is c r.place (in_use own) M.ledger.long ∙ alone }

  -- ---- what the client meets of one event ----

  pub record MeetsPart (event : Event) (events : List Event) (trace : List Met) : Type 0 where
    pub is : fold (follow_met s c) (solo s c events) trace ≡ meet_event s c events event (solo s c events)
    pub so_far : AreSame qmi_reading (proxy_of s) c (solo s c events) trace
    pub plain : ArePlain s (meet_event s c events event (solo s c events))

  plain_taking : (count : ℕ) (own : List Event) → ArePlain s own → ArePlain s (take_all count own)
  plain_taking zero own plain = plain
  plain_taking (suc count) own plain = (tt, plain)

  plain_meeting : (event : Event) (own : List Event) → IsPlain event (history s own) → ArePlain s own → ArePlain s (meet s event own)
  plain_meeting event own is plain = plain_taking (length (modem_queue wire (history s (event ∷ own)))) (event ∷ own) (is, plain)

  -- an event of a client, where it is this one
  its_own : (d : ℕ) (event : ℕ → Event) (own : List Event) → (if d == c then meets (proxy_of s) (event c) own else own) ≡ meet_if (d == c) s (event d) own
  its_own d event own =
      let step : (b : Bool) → (d == c) ≡ b → (if b then meets (proxy_of s) (event c) own else own) ≡ meet_if b s (event d) own =
      λ b. elim b as (λ b. (d == c) ≡ b → (if b then meets (proxy_of s) (event c) own else own) ≡ meet_if b s (event d) own) [
        | true ↦ λ is. meets_is s (event c) own ∙ ap (λ (n : ℕ). meet s (event n) own) (sym (eqb-true d c is))
        | false ↦ λ isnt. refl
      ]
      in step (d == c) refl

  plain_if : (d : ℕ) (event : Event) (own : List Event) → (d ≡ c → IsPlain event (history s own)) → ArePlain s own → ArePlain s (meet_if (d == c) s event own)
  plain_if d event own is plain =
      let step : (b : Bool) → (d == c) ≡ b → ArePlain s (meet_if b s event own) =
      λ b. elim b as (λ b. (d == c) ≡ b → ArePlain s (meet_if b s event own)) [
        | true ↦ λ mine. plain_meeting event own (is (eqb-true d c mine)) plain
        | false ↦ λ other. plain
      ]
      in step (d == c) refl

  -- ---- it joins ----

  comes : (d : ℕ) (events : List Event) → Moment events → message_count d (history s events) ≡ 0 → JoinsFirst s c (Joined d) events → MeetsPart (Joined d) events (Joins d ∷ [])
  comes d events M new first =
      let own : List Event = solo s c events in
      let count : message_count c (history s own) ≡ message_count c (history s events) = sym (count-part c (history s own)) ∙ ap (message_count c) (sym M.alike) ∙ count-part c (history s events) in
      record {
        is = its_own d (λ n. Joined n) own;
        so_far = (first, tt);
        plain = plain_if d (Joined d) own (λ same. ap (λ (n : ℕ). message_count n (history s own)) same ∙ count ∙ ap (λ (n : ℕ). message_count n (history s events)) (sym same) ∙ new) M.plain;
      }

  -- ---- it says something ----

  its_whole : (d : ℕ) (m : List ℕ) (events own : List Event) → meet_event s c events (Piece d m) own ≡ meet_if (d == c) s (Piece d m) own
  its_whole d m events own =
      let whole : List Event = alone.meet_own (qmi_protocol s) (qmi_alone s) c events m own in
      let step : (b : Bool) → (d == c) ≡ b → (if b then whole else own) ≡ meet_if b s (Piece d m) own =
      λ b. elim b as (λ b. (d == c) ≡ b → (if b then whole else own) ≡ meet_if b s (Piece d m) own) [
        | true ↦ λ is. meets_whole s c events m own ∙ ap (λ (n : ℕ). meet s (Piece n m) own) (sym (eqb-true d c is))
        | false ↦ λ isnt. refl
      ]
      in step (d == c) refl

  says : (d : ℕ) (m : List ℕ) (events : List Event) → Moment events → IsSaid d m (history s events) → MeetsPart (Piece d m) events (Said d m ∷ [])
  says d m events M said =
      let own : List Event = solo s c events in
      let here : d ≡ c → is_present d (history s own) ≡ true =
      λ same. ap (λ (n : ℕ). is_present n (history s own)) same ∙ sym M.same.same.there ∙ ap (λ (n : ℕ). is_present n (history s events)) (sym same) ∙ said.there in
      record {
        is = its_own d (λ n. Piece n m) own ∙ sym (its_whole d m events own);
        so_far = ((λ same. said.short), tt);
        plain = subst (ArePlain s) (sym (its_whole d m events own)) (plain_if d (Piece d m) own (λ same. record { low = said.low; high = said.high; whole = said.whole; short = said.short; there = here same }) M.plain);
      }

  -- the modem says nothing at once
  nothing_heard : (asked : List ℕ) (d place : ℕ) → heard_if_unasked asked d place None ≡ []
  nothing_heard [] d place = refl
  nothing_heard (byte ∷ asked) d place = refl

  -- ---- the modem answers ----

  begun_in_use : (past : List Fact) → in_use (EventBegan ∷ past) ≡ in_use past
  unfolding in_use
  begun_in_use past = refl

  hears_it : (m : List ℕ) (events own : List Event) → ArePlain s (ModemPiece m ∷ events)
      → meet_event s c events (ModemPiece m) own ≡ meet_message s (answer_alone with_number c (first_answered_by m (in_use (history s events))) m (in_use (history s own))) own
  unfolding alone.hear_all
  hears_it m events own plain =
      let past : List Fact = EventBegan ∷ history s events in
      ap (λ (items : List Item). meet_if (alone.fails items) s ModemGone (alone.hear_all (qmi_protocol s) (qmi_alone s) c items past own)) (hears_one s there m events plain.1 plain.0.whole)
      ∙ ap (λ (kind : Option MessageKind). meet_message s (heard_alone kind s c m past (history s own)) own) plain.0.kind
      ∙ ap (λ (requests : List Request). meet_message s (answer_alone with_number c (first_answered_by m requests) m (in_use (history s own))) own) (begun_in_use (history s events))

  -- a short message comes whole
  comes_whole : (m : List ℕ) (own : List Event) → length m ≤ piece_limit → meet_message s (Some m) own ≡ meet s (ModemPiece m) own
  unfolding alone.meet_pieces
  comes_whole m own short = ap (λ (pieces : List (List ℕ)). alone.meet_pieces (qmi_protocol s) (qmi_alone s) pieces own) (one_piece (length m) m short)

  module _ (events : List Event) (M : Moment events) (m : List ℕ) (response : IsResponse m) where
    abbrev own_events : List Event
    own_events = solo s c events

    abbrev answered : Option Request → Option (List ℕ)
    answered found = answer_alone with_number c found m (in_use (history s own_events))

    -- an answer to this request
    module _ (r : Request) (is : first_answered_by m (in_use (history s events)) ≡ Some r) where
      answered_is : (F : IsFound events r) → meet_message s (answers.numbered with_number (answers.number_at c r.place (in_use (history s own_events))) m) own_events ≡ meet s (ModemPiece (with_number F.number m)) own_events
      answered_is F =
          ap (λ (o : Option ℕ). meet_message s (answers.numbered with_number o m) own_events) F.alone ∙ comes_whole (with_number F.number m) own_events (numbered_response F.number m response).short

      heard_is : (if r.conn == c then hears qmi_reading (proxy_of s) (own_number qmi_reading (proxy_of s) c r.place own_events) m own_events else own_events) ≡ meet_message s (answered (Some r)) own_events
      heard_is =
          let heard : List Event = hears qmi_reading (proxy_of s) (own_number qmi_reading (proxy_of s) c r.place own_events) m own_events in
          let answer : Option (List ℕ) = answers.numbered with_number (answers.number_at c r.place (in_use (history s own_events))) m in
          let step : (b : Bool) → (r.conn == c) ≡ b → (if b then heard else own_events) ≡ meet_message s (if b then answer else None) own_events =
          λ b. elim b as (λ b. (r.conn == c) ≡ b → (if b then heard else own_events) ≡ meet_message s (if b then answer else None) own_events) [
            | true ↦ λ mine.
                let F = found_alone events M m r is mine in
                ap (λ (o : Option ℕ). hears qmi_reading (proxy_of s) o m own_events) F.told ∙ meets_is s (ModemPiece (with_number F.number m)) own_events ∙ sym (answered_is F)
            | false ↦ λ other. refl
          ]
          in step (r.conn == c) refl

      heard_short : r.conn ≡ c → IsShort qmi_reading (own_number qmi_reading (proxy_of s) c r.place own_events) m
      heard_short same =
          let F = found_alone events M m r is (eq-eqb r.conn c same) in
          subst (λ (o : Option ℕ). IsShort qmi_reading o m) (sym F.told) (numbered_response F.number m response).short

      heard_plain : ArePlain s (meet_message s (answered (Some r)) own_events)
      heard_plain =
          let answer : Option (List ℕ) = answers.numbered with_number (answers.number_at c r.place (in_use (history s own_events))) m in
          let step : (b : Bool) → (r.conn == c) ≡ b → ArePlain s (meet_message s (if b then answer else None) own_events) =
          λ b. elim b as (λ b. (r.conn == c) ≡ b → ArePlain s (meet_message s (if b then answer else None) own_events)) [
            | true ↦ λ mine.
                let F = found_alone events M m r is mine in
                subst (ArePlain s) (sym (answered_is F)) (plain_meeting (ModemPiece (with_number F.number m)) own_events (numbered_response F.number m response) M.plain)
            | false ↦ λ other. M.plain
          ]
          in step (r.conn == c) refl

    record HearsPart (found : Option Request) : Type 0 where
      is : fold (follow_met s c) own_events (heard_by (option_map row_of found) m) ≡ meet_message s (answered found) own_events
      so_far : AreSame qmi_reading (proxy_of s) c own_events (heard_by (option_map row_of found) m)
      plain : ArePlain s (meet_message s (answered found) own_events)

    hears_part : (found : Option Request) → first_answered_by m (in_use (history s events)) ≡ found → HearsPart found
    hears_part None is = record { is = refl; so_far = tt; plain = M.plain }
    hears_part (Some r) is = record { is = heard_is r is; so_far = (heard_short r is, tt); plain = heard_plain r is }

  answers_come : (m : List ℕ) (events : List Event) → Moment events → ArePlain s (ModemPiece m ∷ events) → (ledger : Ledger) → Mirrored (history s events) ledger → MeetsPart (ModemPiece m) events (heard_by (first_with (key_of m) ledger.rows) m)
  answers_come m events M plain ledger K =
      let found : Option Request = first_answered_by m (in_use (history s events)) in
      let P = hears_part events M m plain.0 found refl in
      let first : first_with (key_of m) ledger.rows ≡ option_map row_of found = ap (first_with (key_of m)) K.mirrors.rows ∙ first_row m (in_use (history s events)) K.long in
      let whole = hears_it m events (solo s c events) plain in
      subst (λ (row : Option Row). MeetsPart (ModemPiece m) events (heard_by row m)) (sym first)
      (record { is = P.is ∙ sym whole; so_far = P.so_far; plain = subst (ArePlain s) (sym whole) P.plain })

  -- ---- it takes bytes ----

  takes : (d count : ℕ) (events : List Event) → Moment events → count ≤ queued_for (qmi_protocol s) d events → MeetsPart (Took d count) events (Takes d (take count (text_for s d events).waiting) ∷ [])
  takes d count events M within =
      let own : List Event = solo s c events in
      let bytes : List ℕ = take count (text_for s d events).waiting in
      let long : length bytes ≡ count = length-take-le count (text_for s d events).waiting (within_if (is_present d (history s events)) count (length (text_for s d events).waiting) within) in
      record {
        is = its_own d (λ n. Took n (length bytes)) own ∙ ap (λ (k : ℕ). meet_if (d == c) s (Took d k) own) long;
        so_far = (
          (λ same.
              ap (λ (k : ℕ). take k (text_for s c own).waiting) long
              ∙ ap (λ (r : Rendering). take count r.waiting) (sym M.same.same.bytes)
              ∙ ap (λ (n : ℕ). take count (text_for s n events).waiting) (sym same)),
          tt,
        );
        plain = plain_if d (Took d count) own (λ same. tt) M.plain;
      }

  -- ---- the time goes on ----

  passes_is : (time : ℕ) (events own : List Event) → meet_event s c events (Now time) own ≡ meet s (Now time) own
  unfolding alone.hear_all
  passes_is time events own = refl

  passes : (time : ℕ) (events : List Event) → Moment events → MeetsPart (Now time) events (ClockShows time ∷ [])
  passes time events M =
      let own : List Event = solo s c events in
      record {
        is = meets_is s (Now time) own ∙ sym (passes_is time events own);
        so_far = (tt, tt);
        plain = subst (ArePlain s) (sym (passes_is time events own)) (plain_meeting (Now time) own tt M.plain);
      }

  -- ---- every event ----

  abbrev Part : Event → List Event → Type 0
  Part event events = MeetsPart event events (met_by qmi_reading event (asked_by (proxy_of s) event events) (taken_by (proxy_of s) event events) (ledger_of qmi_reading (proxy_of s) events))

  meets_part : (event : Event) (events : List Event) → Moment events → ArePlain s (event ∷ events) → MayCome s event events → JoinsFirst s c event events → Mirrored (history s events) (ledger_of qmi_reading (proxy_of s) events) → Part event events
  meets_part (Joined d) events M plain may first K = comes d events M plain.0 first
  meets_part (Piece d m) events M plain may first K =
      subst (λ (rest : List Met). MeetsPart (Piece d m) events (Said d m ∷ rest)) (sym (nothing_heard (asked_by (proxy_of s) (Piece d m) events) d (said_by d (ledger_of qmi_reading (proxy_of s) events) + 1))) (says d m events M plain.0)
  meets_part (ModemPiece m) events M plain may first K = answers_come m events M plain (ledger_of qmi_reading (proxy_of s) events) K
  meets_part (Took d count) events M plain may first K = takes d count events M may
  meets_part (Now time) events M plain may first K = passes time events M
  meets_part (ModemTook count) events M plain may first K = record { is = refl; so_far = tt; plain = M.plain }
  meets_part (Left d) events M plain may first K = absurd plain.0
  meets_part ModemGone events M plain may first K = absurd plain.0
  meets_part ModemBack events M plain may first K = absurd plain.0

  -- ---- whole traces ----

  record Told (events : List Event) : Type 0 where
    is : met_alone qmi_reading (proxy_of s) c (trace_of qmi_reading (proxy_of s) events) ≡ solo s c events
    so_far : AreSame qmi_reading (proxy_of s) c [] (trace_of qmi_reading (proxy_of s) events)
    plain : ArePlain s (solo s c events)

  told_more : (event : Event) (events : List Event) → Told events → Part event events → Told (event ∷ events)
  unfolding alone.solo trace_of
  told_more event events T P =
      let before : List Met = trace_of qmi_reading (proxy_of s) events in
      let more : List Met = met_by qmi_reading event (asked_by (proxy_of s) event events) (taken_by (proxy_of s) event events) (ledger_of qmi_reading (proxy_of s) events) in
      record {
        is = fold-append (follow_met s c) [] before more ∙ ap (λ (own : List Event). fold (follow_met s c) own more) T.is ∙ P.is;
        so_far = same_both qmi_reading (proxy_of s) c [] before more T.so_far (subst (λ (own : List Event). AreSame qmi_reading (proxy_of s) c own more) (sym T.is) P.so_far);
        plain = P.plain;
      }

  told : (events : List Event) → ArePlain s events → AllLetAlone s c events → AllJoinFirst s c events → Told events
  unfolding alone.solo trace_of
  told [] plain others first = record { is = refl; so_far = tt; plain = tt }
  told (event ∷ events) plain others first =
      let T = told events plain.1 others.1 first.1 in
      let L = is_let_alone s c events others.1 in
      told_more event events T (meets_part event events (moment events L T.plain) plain others.0.sound.0 first.0 (mirrored events plain.1 L.sound))

  pub meets_its_part : (events : List Event) → ArePlain s events → AllLetAlone s c events → AllJoinFirst s c events → MeetsItsPart qmi_reading (proxy_of s) (solo s) c events
  meets_its_part events plain others first = (told events plain others first).is

  -- where nothing waits for it in the end
  pub takes_the_same : (events : List Event) → ArePlain s events → AllLetAlone s c events → AllJoinFirst s c events → (text_for s c events).waiting ≡ [] → TakesTheSame qmi_reading (proxy_of s) c events
  takes_the_same events plain others first none =
      let T = told events plain others first in
      let same = (histories_are_same s c events client (is_let_alone s c events others)).same.bytes in
      same_alone qmi_reading (proxy_of s) c [] (trace_of qmi_reading (proxy_of s) events) T.so_far
      (ap (λ (own : List Event). (text_for s c own).waiting) T.is ∙ ap (λ (r : Rendering). r.waiting) (sym same) ∙ none)
