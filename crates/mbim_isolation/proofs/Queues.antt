-- A command that is forwarded, and what a client is due, stand in the queues at the end of the event.
use Rattle.std.proofs.Common.{◌≡◌, ◌≢◌, ℕ, ◌+◌, Bool, true, false, if◌then◌else◌, List, [], ◌∷◌, ◌++◌, map, refl, ap, sym, ◌∙◌, subst, Contains, Some}
use Rattle.std.proofs.lemmas.Bool.{eq-eqb, and_parts}
use Rattle.mbim_frame.specs.declared.kind.MessageKind.TheVariants.{Open}
use Rattle.mbim_frame.specs.Frame.{size_of}
use Rattle.mbim_frame.specs.Head.{is_kind}
use Rattle.proxy_history.specs.Events.{Event, Piece, ModemPiece}
use Rattle.proxy_history.specs.Items.{Says, delivered_by_piece}
use Rattle.proxy_history.specs.Streams.{stream, modem_stream, messages_of_piece}
use Rattle.proxy_history.specs.Facts.{Fact, Request, Forward, Judged, Forwarded}
use Rattle.proxy_history.specs.Decision.{Decision, Forwards}
use Rattle.proxy_history.specs.Connections.{contains, is_present, message_count}
use Rattle.proxy_history.specs.Requests.{in_use, pending, forward_count}
use Rattle.proxy_history.specs.Modem.{to_modem, modem_taken_count}
use Rattle.proxy_history.specs.Rendering.{put}
use Rattle.proxy_history.specs.Coming.{AreSound}
use Rattle.proxy_history.specs.Standing.{IsServed}
use Rattle.proxy_history.specs.History as proxy
use Rattle.proxy_history.proofs.Walk.{each_message}
use Rattle.proxy_history.proofs.Coming.{joins_or_modem_takes}
use Rattle.proxy_history.proofs.Waiting.{Adds, rest_adds, waits_behind}
use Rattle.proxy_history.proofs.Standing.{served}
use Rattle.mbim_proxy.specs.Setup.{Setup}
use Rattle.mbim_proxy.specs.Known.{Known}
use Rattle.mbim_proxy.specs.Step.{known_now}
use Rattle.mbim_proxy.specs.Text.{mbim_wording}
use Rattle.mbim_proxy.specs.ModemStates.{is_own_open}
use Rattle.mbim_proxy.specs.Lists.{waiting}
use Rattle.mbim_proxy.specs.Forwarding.{own_open, wire, number_for, request_of}
use Rattle.mbim_proxy.specs.Clients.{command_message, decision_for, forward_for, judge, hear_client}
use Rattle.mbim_proxy.specs.FromModem.{heard_as, is_answered_by, opening_status, hear_modem}
use Rattle.mbim_proxy.specs.History.{mbim_protocol, history}
use Rattle.mbim_proxy.proofs.Verdicts.{forwarded_have_the_next_number}
use Rattle.mbim_proxy.proofs.Walk.{Asks, orderly}
use Rattle.mbim_state.specs.Core.{HasNumbers}
use Rattle.mbim_state.proofs.Regular.{Regular, taken_within}
use Rattle.mbim_proxy.proofs.Waiting.{waits_is}
use Rattle.mbim_isolation.specs.Laws.{bytes_for, facts_before, is_reply, due}
use Rattle.mbim_isolation.specs.Queues.{facts_before_saying, IsQueued}
use Rattle.mbim_isolation.proofs.Answers.{regular_items, sender_there, answers_have_one_receiver}
use Rattle.mbim_isolation.proofs.Openings.{opening_bytes, openings_answer_the_waiting}

-- ---- commands ----

module _ (s : Setup) (c : ℕ) (m : List ℕ) (n : ℕ) (past after : List Fact) (regular : Regular s past) (there : is_present c past ≡ true) (command : is_kind Open m ≡ false) (decided : decision_for s (known_now s c past) c m past ≡ Forwards n)
    (rest : Adds (wire s) (proxy.add (mbim_protocol s) (Says c m) past) after) where
  abbrev known : Known
  known = known_now s c past

  abbrev before : List Fact
  before = Judged c (message_count c past + 1) m Forward ∷ past

  abbrev request : Request
  request = request_of s c (command_message s known m) n before

  abbrev sent : List Fact
  sent = Forwarded request ∷ before

  added : proxy.add (mbim_protocol s) (Says c m) past ≡ sent
  added =
      ap (λ (b : Bool). if b then hear_client s known c m past else past) there
      ∙ ap (λ (decision : Decision). judge s known c m decision past) decided
      ∙ ap (λ (opens : Bool). forward_for opens s known c m n past) command

  behind : Adds (wire s) sent after
  behind = subst (λ (l : List Fact). Adds (wire s) l after) added rest

  counts : message_count c before ≡ message_count c past + 1
  unfolding message_count
  counts = ap (λ (b : Bool). if b then message_count c past + 1 else message_count c past) (eq-eqb c c refl)

  in_use_then : in_use sent ≡ in_use past ++ request ∷ []
  unfolding in_use
  in_use_then = refl

  bytes_then : to_modem (wire s) sent ≡ to_modem (wire s) past ++ wire s request
  unfolding to_modem
  bytes_then = refl

  taken_then : modem_taken_count sent ≡ modem_taken_count past
  unfolding modem_taken_count
  taken_then = refl

  serial_then : request.serial ≡ forward_count sent
  unfolding forward_count
  serial_then = refl

  queued : IsQueued s c m past after
  queued = record {
    request = request;
    sender = refl;
    place = counts;
    message = refl;
    number = sym (ap (λ (b : Bool). number_for s (if b then own_open s else command_message s known m) past) command) ∙ forwarded_have_the_next_number s known c m n past decided;
    waits = waits_behind (wire s) request past sent after in_use_then bytes_then taken_then serial_then behind (taken_within s past regular.new);
  }

pub forwarded_commands_are_queued : (s : Setup) (events : List Event) (c : ℕ) (piece : List ℕ) (earlier later : List (List ℕ)) (m : List ℕ) (n : ℕ)
    → AreSound (mbim_protocol s) events → messages_of_piece size_of (stream c events) piece ≡ earlier ++ m ∷ later
    → is_present c (facts_before_saying s events c earlier) ≡ true → is_kind Open m ≡ false
    → decision_for s (known_now s c (facts_before_saying s events c earlier)) c m (facts_before_saying s events c earlier) ≡ Forwards n
    → IsQueued s c m (facts_before_saying s events c earlier) (history s (Piece c piece ∷ events))
forwarded_commands_are_queued s events c piece earlier later m n coming brings there command decided =
    queued s c m n (facts_before_saying s events c earlier) (history s (Piece c piece ∷ events))
    (regular_items s (map (λ m. Says c m) earlier) events (each_message (λ item. joins_or_modem_takes item ≡ false) (λ m. Says c m) earlier (λ m. refl)) coming)
    there command decided (rest_adds (mbim_protocol s) (Asks s) (orderly s) events c earlier piece later m brings)

-- ---- answers ----

module _ (s : Setup) (events : List Event) (stream piece : List ℕ) (earlier later : List (List ℕ)) (m : List ℕ) (r : Request) (within : HasNumbers s) (coming : AreSound (mbim_protocol s) events)
    (back : modem_stream size_of s.starts_away events ≡ Some stream) (brings : delivered_by_piece (mbim_protocol s) stream piece ≡ earlier ++ m ∷ later) (reply : is_reply (heard_as m) ≡ true)
    (at : Contains (pending (facts_before s events earlier)) r) (answers : is_answered_by (heard_as m) m r ≡ true) where
  abbrev past : List Fact
  past = facts_before s events earlier

  abbrev Served : ℕ → List ℕ → Type 0
  Served c bytes = IsServed s.limits (mbim_wording s) c bytes past (history s (ModemPiece piece ∷ events))

  serves : (c : ℕ) (bytes : List ℕ) → is_present c past ≡ true → bytes_for s c (hear_modem s m past) ≡ put s.limits.outbox bytes (bytes_for s c past) → Served c bytes
  serves c bytes there put_is = served (mbim_protocol s) (Asks s) (orderly s) events earlier stream piece later m back brings c bytes there put_is

  pub answers_stand : r.conn ≢ 0 → Served r.conn (due s r m past)
  answers_stand client =
      serves r.conn (due s r m past) (sender_there s within events earlier coming m reply r at answers client)
      (answers_have_one_receiver s within events earlier coming m reply r at answers client).sender

  pub openings_stand : (c : ℕ) → c ≢ 0 → is_own_open r ≡ true → contains c (waiting s past) ≡ true → Served c (opening_bytes s c (opening_status m) past)
  openings_stand c client opens waits =
      serves c (opening_bytes s c (opening_status m) past) (and_parts (is_present c past) _ (sym (waits_is s c past) ∙ waits)).0
      (openings_answer_the_waiting s within events earlier coming m reply r at answers opens c client
      ∙ ap (λ (b : Bool). if b then put s.limits.outbox (opening_bytes s c (opening_status m) past) (bytes_for s c past) else bytes_for s c past) waits)
