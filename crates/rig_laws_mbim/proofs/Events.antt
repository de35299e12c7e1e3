-- What holds of a rig's events at every moment, and how each event keeps it. Lists of events and of facts have the newest first.
use Rattle.std.proofs.Common.{◌≡◌, ℕ, ◌+◌, ◌*◌, ◌^◌, ◌<◌, ◌≤◌, zero, inl, inr, max, Bool, true, false, ◌==◌, nat_le, nat_lt, if◌then◌else◌, List, [], ◌∷◌, ◌++◌, length, drop, map, Option, Some, None, refl, ap, sym, ◌∙◌, arith, subst, lit≤, Contains, drop_of_length-le}
use Rattle.std.specs.List.{range_with_len, AllByRecursion}
use Rattle.std.proofs.lemmas.Bool.{lt-ltb}
use Rattle.std.proofs.lemmas.Bool.Decides.{nat_tests}
use Rattle.std.proofs.lemmas.List.Elements.{Contains-append_right}
use Rattle.kit_bytes.proofs.Lists.{all_filter}
use Rattle.framing.specs.Framing.{IsMessage}
use Rattle.framing.specs.Cutting.{cut, cut_from}
use Rattle.mbim_frame.specs.declared.kind.MessageKind.TheVariants.{CommandDone}
use Rattle.mbim_frame.specs.Frame.{size_of}
use Rattle.mbim_frame.specs.Framing.{size_of-kept, size_of-positive}
use Rattle.proxy_history.specs.Events.{Event, Joined, Piece, ModemPiece, Now, Took, ModemTook}
use Rattle.proxy_history.specs.Coming.{piece_limit, greatest_name, queued_for, AreSound}
use Rattle.proxy_history.specs.Streams.{stream, modem_stream, with_piece, messages_of_piece, is_bad}
use Rattle.proxy_history.specs.Items.{Item, Says, GoesBad, ModemSays, ModemIsLost, item_if, modem_items}
use Rattle.proxy_history.specs.Facts.{Fact, Request, EventBegan, Own, Share, Forward, Ready, Waits, NotAdmitted, Ended, Admitted, Judged, Taken, Forwarded, Answered, OpeningEnded, TimeIs}
use Rattle.proxy_history.specs.Connections.{present, is_present, contains, message_count}
use Rattle.proxy_history.specs.Requests.{has_share, in_use, pending, is_pending, forward_count}
use Rattle.proxy_history.specs.Modem.{now, to_modem, modem_taken_count, modem_queue}
use Rattle.proxy_history.specs.View.{view}
use Rattle.proxy_history.specs.Unanswered.{due}
use Rattle.proxy_history.specs.History as proxy
use Rattle.proxy_history.specs.History.{add_all}
use Rattle.proxy_history.proofs.Walk.{was_asked, all_fit}
use Rattle.proxy_history.proofs.Sound.{forwarded_from_in_use}
use Rattle.proxy_history.proofs.Pieces.{ends_message}
use Rattle.mbim_proxy.specs.Setup.{the_space}
use Rattle.mbim_proxy.specs.Known.{Known}
use Rattle.mbim_proxy.specs.Step.{known_now}
use Rattle.mbim_proxy.specs.ModemStates.{is_own_open}
use Rattle.mbim_proxy.specs.Forwarding.{own_open, wire, request_of}
use Rattle.mbim_proxy.specs.Clients.{hear_client}
use Rattle.mbim_proxy.specs.FromModem.{hear_modem}
use Rattle.mbim_proxy.specs.OwnList.{finish}
use Rattle.mbim_proxy.specs.History.{mbim_protocol, history, text_for}
use Rattle.mbim_proxy.proofs.Walk.{Asks, orderly}
use Rattle.mbim_proxy.proofs.Sound.{histories_are_sound, requests_are_asked}
use Rattle.mbim_solo.proofs.Spoken.{IsQuiet, SaysOne, comes_at_once, answer_says_one, plain_says_one}
use Rattle.rig_runs.specs.Mbim.{setup}
use Rattle.rig_runs.specs.MbimExamples.{configuration, open_2}
use Rattle.rig_laws.proofs.Lists.{in_range, length-range}
use Rattle.rig_laws_mbim.proofs.Few.{few_expire, commands_wait}
use Rattle.rig_laws_mbim.proofs.Messages.{configuration_is, opening_is, query, cid_for, query_is, answer, answer_body, answer_is, own_open_under, opened, modem_is_opened}
use Rattle.rig_laws_mbim.proofs.Harmless.{AreHarmless}
use Rattle.rig_laws_mbim.proofs.Calm.{Calm, Progress, shut, opening, ready, queue_is, begun, timed, was_taken, modem_taken_all, admitted, judged_configuration, one_more_configured, judged_ready, asks_to_open, finishes, finished}
use Rattle.rig_laws_mbim.proofs.Room.{HasRoom, AllHaveRoom, outbox, fewer, all_expire}
use Rattle.rig_laws_mbim.proofs.Says.{HasNumber, has_number, configuration_is_heard, open_is_heard, first_is_heard, IsForwarded, IsRefused, query_is_refused, query_is_forwarded}
use Rattle.rig_laws_mbim.proofs.Hears.{Suits, answered_or_late, answer_is_heard, opening_is_heard}
use Rattle.rig_laws_mbim.proofs.Trail.{AreWhole, standing, IsSaidAt, IsStep, Trail}
use Rattle.rig_laws_mbim.proofs.Adding.{Adds, Moment, AreMoments, HasSaid, naming, finding, having_opened, querying, passing, HasHeard, answering, ending, new_bytes, expired_by}

pub record Going (w : Progress) (requests : List Request) (queue : List ℕ) (events : List Event) : Type 0 where
  pub sound : AreSound (mbim_protocol setup) events
  pub names : greatest_name events ≡ w.joined
  -- each stream ends with a whole message
  pub whole : (c : ℕ) → (cut size_of (stream c events)).rest ≡ []
  pub said : List ℕ
  pub said_is : modem_stream size_of false events ≡ Some said
  pub quiet : IsQuiet setup said
  pub calm : Calm w requests queue (history setup events)
  pub few : w.joined ≤ 64
  pub moments : AreMoments events
  pub trail : Trail (standing w requests queue) events

-- nothing waits for a client that is there
abbrev pub IsServed : ℕ → List Event → Type 0
IsServed c events = is_present c (history setup events) ≡ true → (text_for setup c events).waiting ≡ []

abbrev pub AllAreServed : List Event → Type 0
AllAreServed events = (c : ℕ) → IsServed c events

abbrev began : List Event → List Fact
began events = EventBegan ∷ history setup events

all_have_room : (events : List Event) → AllAreServed events → AllHaveRoom outbox (began events)
unfolding view present
all_have_room events served c there =
    let none : length (text_for setup c events).waiting ≡ 0 = ap length (served c there) in
    record { fits = all_fit (mbim_protocol setup) (Asks setup) (orderly setup) events c there; room = omega (arith, none) }

is_there : {w : Progress} {requests : List Request} {queue : List ℕ} {past : List Fact} (c : ℕ) → Calm w requests queue past → 1 ≤ c → c ≤ w.joined → is_present c past ≡ true
is_there {w} c calm low high = ap (contains c) calm.there ∙ in_range w.joined 1 c low (omega (arith, high))

-- ---- what an event adds ----

-- where it adds these facts
moment : {w : Progress} {requests : List Request} {queue : List ℕ} {event : Event} {events : List Event} {after : List Fact} → history setup (event ∷ events) ≡ after → Calm w requests queue after
    → Adds event (history setup events) after → Moment event events
moment {event = event} {events = events} is calm adds = record { adds = subst (Adds event (history setup events)) (sym is) adds; harmless = subst AreHarmless (sym is) calm.harmless }

nothing_new : {w v : Progress} {requests requests_then : List Request} {queue : List ℕ} {past after : List Fact} → Calm w requests queue past → Calm v requests_then queue after → new_bytes past after ≡ []
nothing_new {queue = queue} {after = after} before calm =
    ap (λ (l : List ℕ). drop (length l) (modem_queue (wire setup) after)) (queue_is before) ∙ ap (drop (length queue)) (queue_is calm) ∙ drop_of_length-le queue {i = length queue} (omega arith)

all_new : {w v : Progress} {requests requests_then : List Request} {bytes : List ℕ} {past after : List Fact} → Calm w requests [] past → Calm v requests_then bytes after → new_bytes past after ≡ bytes
all_new {after = after} before calm = ap (λ (l : List ℕ). drop (length l) (modem_queue (wire setup) after)) (queue_is before) ∙ queue_is calm

-- an event more
goes : {w v : Progress} {requests requests_then : List Request} {queue queue_then : List ℕ} {events : List Event} (event : Event) → Going w requests queue events → IsStep event (standing w requests queue) (standing v requests_then queue_then)
    → w.opened ≤ v.opened → AreWhole (event ∷ events) → Calm v requests_then queue_then (history setup (event ∷ events)) → Trail (standing v requests_then queue_then) (event ∷ events)
goes {w} {requests = requests} {queue = queue} event going step rises streams calm = (record { calm = calm; streams = streams }, (standing w requests queue, ((step, rises), going.trail)))

-- ---- takings ----

pub taken : {w : Progress} {requests : List Request} {queue : List ℕ} {events : List Event} (c count : ℕ) → Going w requests queue events → count ≤ queued_for (mbim_protocol setup) c events
    → Going w requests queue (Took c count ∷ events)
unfolding proxy.history proxy.add_all stream modem_stream present
taken {w} {requests} {queue} {events} c count going within =
    let calm : Calm w requests queue (began events) = begun going.calm in
    let facts : List Fact = if is_present c (history setup events) then Taken c count ∷ began events else began events in
    let then_calm : Calm w requests queue facts =
    elim (is_present c (history setup events)) as (λ b. Calm w requests queue (if b then Taken c count ∷ began events else began events)) [ true ↦ was_taken calm c count | false ↦ calm ] in
    record {
      sound = (within, going.sound);
      names = going.names;
      whole = going.whole;
      said = going.said;
      said_is = going.said_is;
      quiet = going.quiet;
      calm = finished then_calm;
      few = going.few;
      moments = (moment (finishes then_calm) then_calm refl, going.moments);
      trail = goes (Took c count) going tt (omega arith) (record { whole = going.whole; said = going.said; said_is = going.said_is; quiet = going.quiet }) (finished then_calm);
    }

pub modem_taken : {w : Progress} {requests : List Request} {queue : List ℕ} {events : List Event} (count : ℕ) → Going w requests queue events → count ≡ length queue → Going w requests [] (ModemTook count ∷ events)
unfolding proxy.history proxy.add_all stream modem_stream
modem_taken {w} {requests} {queue} {events} count going is = record {
  sound = (let waits : length (modem_queue (wire setup) (history setup events)) ≡ length queue = ap length (queue_is going.calm) in omega (arith, waits, is), going.sound);
  names = going.names;
  whole = going.whole;
  said = going.said;
  said_is = going.said_is;
  quiet = going.quiet;
  calm = finished (modem_taken_all (begun going.calm) count is);
  few = going.few;
  moments = (moment (finishes (modem_taken_all (begun going.calm) count is)) (modem_taken_all (begun going.calm) count is) refl, going.moments);
  trail = goes (ModemTook count) going tt (omega arith) (record { whole = going.whole; said = going.said; said_is = going.said_is; quiet = going.quiet }) (finished (modem_taken_all (begun going.calm) count is));
}

-- ---- a client joins ----

joined_whole : (b : Bool) (bytes : List ℕ) → (cut size_of bytes).rest ≡ [] → (cut size_of (if b then [] else bytes)).rest ≡ []
unfolding cut_from
joined_whole true bytes whole = refl
joined_whole false bytes whole = whole

pub joins : {joined : ℕ} {requests : List Request} {queue : List ℕ} {events : List Event} → Going (shut joined 0) requests queue events → joined < 64 → Going (shut (joined + 1) 0) requests queue (Joined (joined + 1) ∷ events)
unfolding proxy.history proxy.add_all stream modem_stream
joins {joined} {requests} {queue} {events} going few =
    let calm : Calm (shut joined 0) requests queue (began events) = begun going.calm in
    let count : length (present (began events)) ≡ joined = ap length calm.there ∙ length-range joined 1 in
    let test : nat_lt (length (present (began events))) 64 ≡ true = lt-ltb _ _ (omega (arith, count, few)) in
    let then_calm : Calm (shut (joined + 1) 0) requests queue (Admitted (joined + 1) ∷ began events) = admitted calm in
    let facts : history setup (Joined (joined + 1) ∷ events) ≡ Admitted (joined + 1) ∷ began events =
    ap (λ (b : Bool). finish setup (if b then Admitted (joined + 1) ∷ began events else Ended (joined + 1) NotAdmitted ∷ began events)) test ∙ finishes then_calm in
    record {
      sound = (omega (arith, going.names), going.sound);
      names = omega (arith, going.names);
      whole = λ c. joined_whole (joined + 1 == c) (stream c events) (going.whole c);
      said = going.said;
      said_is = going.said_is;
      quiet = going.quiet;
      calm = subst (Calm (shut (joined + 1) 0) requests queue) (sym facts) then_calm;
      few = omega (arith, few);
      moments = (moment facts then_calm (record { count = (going.calm.spoke (joined + 1)).nothing (omega arith); facts = refl }), going.moments);
      trail = goes (Joined (joined + 1)) going tt (omega arith) (record { whole = λ c. joined_whole (joined + 1 == c) (stream c events) (going.whole c); said = going.said; said_is = going.said_is; quiet = going.quiet }) (subst (Calm (shut (joined + 1) 0) requests queue) (sym facts) then_calm);
    }

-- ---- a client says a message ----

module _ (events : List Event) (c : ℕ) (m : List ℕ) (whole : (d : ℕ) → (cut size_of (stream d events)).rest ≡ []) (is : IsMessage size_of m) where
  piece_history : is_present c (history setup events) ≡ true → history setup (Piece c m ∷ events) ≡ finish setup (hear_client setup (known_now setup c (began events)) c m (began events))
  unfolding proxy.history proxy.add_all present
  piece_history there =
      let ends = ends_message size_of size_of-kept size_of-positive refl (stream c events) m [] m (whole c) refl is in
      let p = mbim_protocol setup in
      ap (λ (l : List (List ℕ)). finish setup (add_all p (map (λ m. Says c m) l ++ item_if (is_bad size_of (stream c events ++ m)) (GoesBad c)) (began events))) ends.messages
      ∙ ap (λ (b : Bool). finish setup (add_all p (map (λ m. Says c m) (m ∷ []) ++ item_if b (GoesBad c)) (began events))) ends.good
      ∙ ap (λ (b : Bool). finish setup (if b then hear_client setup (known_now setup c (began events)) c m (began events) else began events)) there

  piece_whole : (d : ℕ) → (cut size_of (stream d (Piece c m ∷ events))).rest ≡ []
  unfolding stream
  piece_whole d =
      elim (c == d) as (λ b. (cut size_of (if b then stream d events ++ m else stream d events)).rest ≡ []) [
        | true ↦ (ends_message size_of size_of-kept size_of-positive refl (stream d events) m [] m (whole d) refl is).rest
        | false ↦ whole d
      ]

-- where the message is heard so
said_piece : {w v : Progress} {requests requests_then : List Request} {queue queue_then : List ℕ} {events : List Event} (c : ℕ) (m : List ℕ) (after : List Fact) → Going w requests queue events
    → 1 ≤ c → c ≤ w.joined → v.joined ≡ w.joined → IsMessage size_of m → length m ≤ piece_limit → IsSaidAt c m (standing w requests queue) (standing v requests_then queue_then) → w.opened ≤ v.opened → hear_client setup (known_now setup c (began events)) c m (began events) ≡ after → Calm v requests_then queue_then after
    → HasSaid c m (history setup events) after → Going v requests_then queue_then (Piece c m ∷ events)
unfolding modem_stream
said_piece {v = v} {requests_then = requests_then} {queue_then = queue_then} {events = events} c m after going low high joined is short step rises heard calm says =
    let there = is_there c going.calm low high in
    let facts : history setup (Piece c m ∷ events) ≡ after = piece_history events c m going.whole is there ∙ ap (finish setup) heard ∙ finishes calm in
    record {
      sound = (short, going.sound);
      names = going.names ∙ sym joined;
      whole = piece_whole events c m going.whole is;
      said = going.said;
      said_is = going.said_is;
      quiet = going.quiet;
      calm = subst (Calm v requests_then queue_then) (sym facts) calm;
      few = (let few = going.few in omega (arith, few, joined));
      moments = (moment facts calm (record { few = (let few = going.few in omega (arith, few, high)); there = there }, says), going.moments);
      trail = goes (Piece c m) going step rises (record { whole = piece_whole events c m going.whole is; said = going.said; said_is = going.said_is; quiet = going.quiet }) (subst (Calm v requests_then queue_then) (sym facts) calm);
    }

-- its configuration
pub configures : {w : Progress} {requests : List Request} {queue : List ℕ} {events : List Event} → Going w requests queue events → AllAreServed events → w.configured < w.joined
    → Going (one_more_configured w) requests queue (Piece (w.configured + 1) configuration ∷ events)
unfolding message_count
configures {w} {requests} {queue} {events} going served more =
    let c : ℕ = w.configured + 1 in
    let calm : Calm w requests queue (began events) = begun going.calm in
    let heard = configuration_is_heard c (began events) calm (fewer 200 outbox (began events) (omega arith) (all_have_room events served)) in
    let place : ℕ = message_count c (history setup events) + 1 in
    let then_calm : Calm (one_more_configured w) requests queue (Judged c place configuration Own ∷ began events) = judged_configuration calm place in
    said_piece c configuration (Judged c place configuration Own ∷ began events) going (omega arith) (omega (arith, more)) refl configuration_is.is_message configuration_is.short (inl refl) (omega arith) heard then_calm
    (naming (record { is = refl; count = (going.calm.spoke c).nothing (omega arith); facts = refl; new = nothing_new going.calm then_calm }))

-- its request to open, of an open modem
pub finds_open : {joined configured opened : ℕ} {requests : List Request} {queue : List ℕ} {events : List Event} → Going (ready joined configured opened) requests queue events → AllAreServed events → opened < configured → configured ≤ joined
    → Going (ready joined configured (opened + 1)) requests queue (Piece (opened + 1) open_2 ∷ events)
unfolding message_count
finds_open {joined} {configured} {opened} {requests} {queue} {events} going served more within =
    let c : ℕ = opened + 1 in
    let calm : Calm (ready joined configured opened) requests queue (began events) = begun going.calm in
    let heard = open_is_heard c (began events) calm (omega arith) (omega (arith, more)) (fewer 200 outbox (began events) (omega arith) (all_have_room events served)) in
    let place : ℕ = message_count c (history setup events) + 1 in
    let then_calm : Calm (ready joined configured (opened + 1)) requests queue (Judged c place open_2 Ready ∷ began events) = judged_ready calm more within place in
    said_piece c open_2 (Judged c place open_2 Ready ∷ began events) going (omega arith) (omega (arith, more, within)) refl opening_is.is_message opening_is.short
    (inr (inr (inl (record { joined = joined; configured = configured; opened = opened; is = refl; message = refl; was = refl; becomes = refl; queue = refl; named = more; there = within })))) (omega arith) heard then_calm
    (finding (record { is = refl; count = (going.calm.spoke c).once (omega arith) (omega (arith, more)) (omega arith) refl; facts = refl; new = nothing_new going.calm then_calm }))

-- or the first, by which the proxy asks the modem
pub record HasOpened (joined : ℕ) (events : List Event) : Type 0 where
  pub r : Request
  pub own : r.conn ≡ 0
  pub opens : is_own_open r ≡ true
  pub below : r.number < 2 ^ 32
  pub wire_is : wire setup r ≡ own_open_under r.number
  pub going : Going (opening joined) (r ∷ []) (wire setup r) events

pub opens_modem : {joined : ℕ} {events : List Event} → Going (shut joined 1) [] [] events → 1 ≤ joined → HasOpened joined (Piece 1 open_2 ∷ events)
unfolding message_count forward_count now
opens_modem {joined} {events} going some =
    let calm : Calm (shut joined 1) [] [] (began events) = begun going.calm in
    let given : HasNumber (own_open setup) (began events) = has_number (own_open setup) calm (omega arith) (lit≤ tt) in
    let place : ℕ = message_count 1 (history setup events) + 1 in
    let r : Request = request_of setup 0 (own_open setup) given.number (Judged 1 place open_2 Waits ∷ began events) in
    let heard = first_is_heard 1 (began events) given.number calm (omega arith) (omega arith) given.found in
    let then_calm : Calm (opening joined) (r ∷ []) (wire setup r) (Forwarded r ∷ Judged 1 place open_2 Waits ∷ began events) = asks_to_open calm place r (modem_is_opened 0).is_own in
    record {
      r = r;
      own = refl;
      opens = (modem_is_opened 0).is_own;
      below = given.below;
      wire_is = (modem_is_opened given.number).wire;
      going =
          said_piece 1 open_2 (Forwarded r ∷ Judged 1 place open_2 Waits ∷ began events) going (omega arith) some refl opening_is.is_message opening_is.short
          (inr (inl (record { joined = joined; r = r; is = refl; message = refl; was = refl; becomes = refl; queue = refl; asked = (modem_is_opened given.number).wire }))) (omega arith) heard then_calm
          (having_opened (record {
            is = refl;
            first = refl;
            count = (going.calm.spoke 1).once (omega arith) (omega arith) (omega arith) refl;
            r = r;
            next = record { serial = refl; deadline = refl; below = given.below };
            own = record { own = refl; opens = (modem_is_opened 0).is_own; wire_is = (modem_is_opened given.number).wire };
            facts = refl;
            new = all_new going.calm then_calm;
          }));
    }

pub record HasAsked (joined configured opened choice : ℕ) (requests : List Request) (events : List Event) : Type 0 where
  pub r : Request
  pub command : is_own_open r ≡ false
  pub number : r.number < 2 ^ 32
  pub wire_is : wire setup r ≡ query (cid_for choice) r.number
  pub going : Going (ready joined configured opened) (requests ++ r ∷ []) (wire setup r) events

-- as many of the client's commands wait as may
abbrev pub fills_share : (c : ℕ) → List Event → Bool
fills_share c events = has_share setup.limits.share c the_space (began events)

-- a query that is refused asks the modem nothing
pub is_refused : {joined configured opened : ℕ} {requests : List Request} {events : List Event} (c choice own : ℕ) → Going (ready joined configured opened) requests [] events → AllAreServed events → 1 ≤ c → c ≤ opened → opened ≤ joined → length requests ≤ 200
    → fills_share c events ≡ true → Going (ready joined configured opened) requests [] (Piece c (query (cid_for choice) own) ∷ events)
unfolding message_count
is_refused {joined} {configured} {opened} {requests} {events} c choice own going served low high order few full =
    let room : AllHaveRoom 200 (began events) = fewer 200 outbox (began events) (omega arith) (all_have_room events served) in
    let refused : IsRefused c (began events) choice own joined configured opened requests (hear_client setup (known_now setup c (began events)) c (query (cid_for choice) own) (began events)) =
    query_is_refused c (began events) choice own (begun going.calm) low high full room in
    let q = query_is choice in
    let m : List ℕ = query (cid_for choice) own in
    let place : ℕ = message_count c (history setup events) + 1 in
    let then_calm : Calm (ready joined configured opened) requests [] (Judged c place m Share ∷ began events) = subst (Calm (ready joined configured opened) requests []) refused.facts refused.calm in
    said_piece c m (Judged c place m Share ∷ began events) going low (omega (arith, high, order)) refl (q.is_message own) (let short = q.short own in omega (arith, short))
    (inr (inr (inr (record { joined = joined; configured = configured; opened = opened; choice = choice; number = own; message = refl; was = refl; low = low; high = high; there = order; queue = refl; few = few })))) (omega arith) refused.facts then_calm
    (passing (record { choice = choice; number = own; is = refl; count = (going.calm.spoke c).often low high; facts = refl; new = nothing_new going.calm then_calm }))

pub asks : {joined configured opened : ℕ} {requests : List Request} {events : List Event} (c choice own : ℕ) → Going (ready joined configured opened) requests [] events → 1 ≤ c → c ≤ opened → opened ≤ joined → length requests ≤ 200
    → fills_share c events ≡ false → HasAsked joined configured opened choice requests (Piece c (query (cid_for choice) own) ∷ events)
unfolding message_count forward_count now
asks {joined} {configured} {opened} {requests} {events} c choice own going low high order few free =
    let added : IsForwarded c (began events) choice own joined configured opened requests (hear_client setup (known_now setup c (began events)) c (query (cid_for choice) own) (began events)) =
    query_is_forwarded c (began events) choice own (begun going.calm) low high few free in
    let q = query_is choice in
    let r : Request = added.r in
    let m : List ℕ = query (cid_for choice) own in
    let place : ℕ = message_count c (history setup events) + 1 in
    let then_calm : Calm (ready joined configured opened) (requests ++ r ∷ []) (wire setup r) (Forwarded r ∷ Judged c place m Forward ∷ began events) =
    subst (Calm (ready joined configured opened) (requests ++ r ∷ []) (wire setup r)) added.facts added.calm in
    let sender = added.sender in
    record {
      r = r;
      command = added.command;
      number = added.number;
      wire_is = added.wire_is;
      going =
          said_piece c m (Forwarded r ∷ Judged c place m Forward ∷ began events) going low (omega (arith, high, order)) refl (q.is_message own) (let short = q.short own in omega (arith, short))
          (inr (inr (inr (record { joined = joined; configured = configured; opened = opened; choice = choice; number = own; message = refl; was = refl; low = low; high = high; there = order; queue = refl; few = few })))) (omega arith) added.facts then_calm
          (querying (record {
            choice = choice;
            number = own;
            is = refl;
            count = (going.calm.spoke c).often low high;
            r = r;
            next = record { serial = added.serial; deadline = added.deadline; below = added.number };
            command = record { choice = choice; client = grind (arith, nat_tests, sender, low); command = added.command; wire_is = added.wire_is };
            sender = sender;
            place = added.place;
            facts = refl;
            new = all_new going.calm then_calm;
          }));
    }

-- ---- the modem answers ----

modem_history : (events : List Event) (before m : List ℕ) → modem_stream size_of false events ≡ Some before → modem_items (mbim_protocol setup) m (Some before) ≡ ModemSays m ∷ []
    → history setup (ModemPiece m ∷ events) ≡ finish setup (hear_modem setup m (began events))
unfolding proxy.history proxy.add_all
modem_history events before m stream_is items_are =
    ap (λ (o : Option (List ℕ)). finish setup (add_all (mbim_protocol setup) (modem_items (mbim_protocol setup) m o) (began events))) stream_is
    ∙ ap (λ (items : List Item). finish setup (add_all (mbim_protocol setup) items (began events))) items_are

pub placed : (events : List Event) (r : Request) → Contains (in_use (began events)) r → r.space ≡ the_space
unfolding in_use
placed events r at = (was_asked (mbim_protocol setup) (Asks setup) (history setup events) r (requests_are_asked setup events) (forwarded_from_in_use (history setup events) r at)).1.space

heard_piece : {w v : Progress} {requests requests_then : List Request} {queue queue_then : List ℕ} {events : List Event} (m : List ℕ) (after : List Fact) → Going w requests queue events → v.joined ≡ w.joined → length m ≤ 200 → SaysOne setup m m
    → IsStep (ModemPiece m) (standing w requests queue) (standing v requests_then queue_then) → w.opened ≤ v.opened → hear_modem setup m (began events) ≡ after → Calm v requests_then queue_then after → HasHeard m (history setup events) after → Going v requests_then queue_then (ModemPiece m ∷ events)
unfolding stream modem_stream
heard_piece {v = v} {requests_then = requests_then} {queue_then = queue_then} {events = events} m after going joined short one step rises heard calm hears =
    let comes = comes_at_once setup going.said m m going.quiet one in
    let facts : history setup (ModemPiece m ∷ events) ≡ after = modem_history events going.said m going.said_is comes.items ∙ ap (finish setup) heard ∙ finishes calm in
    record {
      sound = (omega (arith, short), going.sound);
      names = going.names ∙ sym joined;
      whole = going.whole;
      said = going.said ++ m;
      said_is = ap (with_piece size_of m) going.said_is ∙ ap (λ (b : Bool). if b then None else Some (going.said ++ m)) comes.good;
      quiet = comes.quiet;
      calm = subst (Calm v requests_then queue_then) (sym facts) calm;
      few = (let few = going.few in omega (arith, few, joined));
      moments = (moment facts calm hears, going.moments);
      trail = goes (ModemPiece m) going step rises
          (record { whole = going.whole; said = going.said ++ m; said_is = ap (with_piece size_of m) going.said_is ∙ ap (λ (b : Bool). if b then None else Some (going.said ++ m)) comes.good; quiet = comes.quiet })
          (subst (Calm v requests_then queue_then) (sym facts) calm);
    }

pub answer_says : (choice number : ℕ) → number < 2 ^ 32 → SaysOne setup (answer (cid_for choice) number) (answer (cid_for choice) number)
answer_says choice number below =
    let a = answer_is choice in
    let short = a.short_body in
    subst (λ (m : List ℕ). SaysOne setup m (answer (cid_for choice) number)) (a.split_is number)
    (answer_says_one setup number (answer_body (cid_for choice)) below (omega (arith, short)) (omega (arith, short)))

pub answers : {joined configured opened : ℕ} {events : List Event} (m : List ℕ) (before : List Request) (r : Request) (behind : List Request) → Suits m r → Going (ready joined configured opened) (before ++ r ∷ behind) [] events → AllAreServed events
    → Going (ready joined configured opened) (before ++ behind) [] (ModemPiece m ∷ events)
unfolding pending
answers {joined} {configured} {opened} {events} m before r behind suits going served =
    let room : AllHaveRoom 200 (began events) = fewer 200 outbox (began events) (omega arith) (all_have_room events served) in
    let heard = answer_is_heard r suits.choice suits.below suits.command before behind (began events) (tt, histories_are_sound setup events) (placed events) (begun going.calm) room in
    let said : List ℕ = answer (cid_for suits.choice) r.number in
    let its_answer : Suits said r = record { choice = suits.choice; below = suits.below; is = refl; command = suits.command } in
    subst (λ (x : List ℕ). Going (ready joined configured opened) (before ++ behind) [] (ModemPiece x ∷ events)) (sym suits.is)
    (heard_piece said (answered_or_late (is_pending r (history setup events)) r said (began events)) going refl ((answer_is suits.choice).short r.number) (answer_says suits.choice r.number suits.below)
    (inl (record { joined = joined; configured = configured; opened = opened; r = r; suits = its_answer; used = Contains-append_right before (r ∷ behind) r (zero, omega arith, refl); was = refl })) (omega arith) heard.facts heard.keeps
    (answering (record { r = r; suits = its_answer; before = before; behind = behind; uses = going.calm.uses; facts = refl })))

pub opens : {joined : ℕ} {events : List Event} (r : Request) → r.number < 2 ^ 32 → r.conn ≡ 0 → is_own_open r ≡ true → 1 ≤ joined → Going (opening joined) (r ∷ []) [] events → AllAreServed events
    → Going (ready joined 1 1) [] [] (ModemPiece (opened r.number) ∷ events)
opens {joined} {events} r below own opens_it some going served =
    let room : AllHaveRoom 200 (began events) = fewer 200 outbox (began events) (omega arith) (all_have_room events served) in
    let is = modem_is_opened r.number in
    let heard = opening_is_heard r below own opens_it some (began events) (tt, histories_are_sound setup events) (placed events) (begun going.calm) room in
    heard_piece (opened r.number) (OpeningEnded 0 (1 ∷ []) ∷ Answered r (opened r.number) ∷ began events) going refl is.short (plain_says_one setup (opened r.number) is.is_message is.no_answer is.no_indication)
    (inr (record { joined = joined; r = r; below = below; own = own; opens = opens_it; message = refl; used = refl; was = refl; becomes = refl })) (omega arith) heard.facts heard.keeps
    (ending (record { r = r; below = below; is = refl; own = own; opens = opens_it; uses = going.calm.uses; facts = refl }))

-- ---- the time goes on ----

room_then : (count time : ℕ) (past : List Fact) → AllHaveRoom count past → AllHaveRoom count (TimeIs time ∷ past)
unfolding view present
room_then count time past has = has

pub goes_on : {joined configured opened : ℕ} {requests : List Request} {queue : List ℕ} {events : List Event} (time : ℕ) → Going (ready joined configured opened) requests queue events → AllAreServed events → length requests ≤ 200
    → AllByRecursion (λ r. is_own_open r ≡ false) requests → Going (ready joined configured opened) requests queue (Now time ∷ events)
unfolding proxy.history proxy.add_all stream modem_stream now pending
goes_on {joined} {configured} {opened} {requests} {queue} {events} time going served few commands =
    let shown : ℕ = max time (now (began events)) in
    let due_ones : List Request = due shown (pending (began events)) in
    let calm : Calm (ready joined configured opened) requests queue (began events) = begun going.calm in
    let count : length due_ones ≤ 200 = let used : length (in_use (began events)) ≡ length requests = ap length calm.uses in omega (arith, few_expire shown (began events), used, few) in
    let room : AllHaveRoom (48 * length due_ones) (began events) = fewer (48 * length due_ones) outbox (began events) (omega (arith, count)) (all_have_room events served) in
    let of_commands : AllByRecursion (λ r. is_own_open r ≡ false) due_ones =
    all_filter (λ (r : Request). is_own_open r ≡ false) (λ (r : Request). nat_le r.deadline shown) (pending (began events)) (commands_wait (began events) (subst (AllByRecursion (λ r. is_own_open r ≡ false)) (sym calm.uses) commands)) in
    let all = all_expire due_ones (TimeIs shown ∷ began events) of_commands (timed calm shown) (room_then (48 * length due_ones) shown (began events) room) in
    let facts : history setup (Now time ∷ events) ≡ expired_by due_ones (TimeIs shown ∷ began events) = ap (finish setup) all.facts ∙ finishes all.calm in
    record {
      sound = (tt, going.sound);
      names = going.names;
      whole = going.whole;
      said = going.said;
      said_is = going.said_is;
      quiet = going.quiet;
      calm = subst (Calm (ready joined configured opened) requests queue) (sym facts) all.calm;
      few = going.few;
      moments = (moment facts all.calm refl, going.moments);
      trail = goes (Now time) going (record { joined = joined; configured = configured; opened = opened; was = refl; becomes = refl }) (omega arith) (record { whole = going.whole; said = going.said; said_is = going.said_is; quiet = going.quiet }) (subst (Calm (ready joined configured opened) requests queue) (sym facts) all.calm);
    }
