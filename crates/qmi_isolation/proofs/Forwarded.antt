-- A request that is forwarded waits for the modem at the end of its event.
use Rattle.std.proofs.Common.{◌≡◌, ℕ, ◌+◌, ◌≤◌, Bool, true, false, if◌then◌else◌, List, [], ◌∷◌, ◌++◌, length, map, refl, ap, ◌∙◌, subst}
use Rattle.std.proofs.lemmas.Bool.{eq-eqb}
use Rattle.qmux_frame.specs.Frame.{size_of}
use Rattle.proxy_history.specs.Events.{Event, Piece}
use Rattle.proxy_history.specs.Items.{Says}
use Rattle.proxy_history.specs.Streams.{messages_of_piece, stream}
use Rattle.proxy_history.specs.Coming.{AreSound}
use Rattle.proxy_history.proofs.Walk.{each_message}
use Rattle.proxy_history.proofs.Coming.{joins_or_modem_takes}
use Rattle.proxy_history.proofs.Waiting.{Adds, adds_none, same, further, waits_behind, rest_adds}
use Rattle.proxy_history.specs.Facts.{Fact, Request, Forward, EventBegan, Judged, Forwarded, Granted}
use Rattle.proxy_history.specs.Decision.{Decision, Forwards}
use Rattle.proxy_history.specs.Connections.{is_present, message_count}
use Rattle.proxy_history.specs.Requests.{in_use, forward_count}
use Rattle.proxy_history.specs.Modem.{to_modem, modem_taken_count}
use Rattle.qmi_proxy.specs.Setup.{Setup}
use Rattle.qmi_proxy.specs.Messages.{uses_id, used_service, used_cid}
use Rattle.qmi_proxy.specs.Clients.{wire, decision_on, request_of, grant_if, judge, hear_client}
use Rattle.qmi_proxy.specs.History.{qmi_protocol, add, history}
use Rattle.qmi_proxy.specs.Regular.{Regular}
use Rattle.qmi_proxy.proofs.Verdicts.{forwarded_have_the_next_number}
use Rattle.qmi_proxy.proofs.Walk.{Asks, orderly}
use Rattle.qmi_proxy.proofs.Regulars.{regular_begun, regular_items, histories_are_regular}
use Rattle.qmi_isolation.specs.Queues.{facts_before_saying, IsQueued}

-- ---- client ids ----

granted : (b : Bool) (c : ℕ) (m : List ℕ) (past : List Fact) → Adds wire past (grant_if b c m past)
unfolding in_use to_modem modem_taken_count forward_count
granted true c m past = adds_none wire past (Granted c (used_service m) (used_cid m) ∷ past) refl refl refl refl
granted false c m past = same wire past

-- ---- the message that is forwarded ----

module _ (s : Setup) where
  module _ (c : ℕ) (m : List ℕ) (n : ℕ) (past after : List Fact) (there : is_present c past ≡ true) (decided : decision_on s c m past ≡ Forwards n) (rest : Adds wire (add s (Says c m) past) after) (was_taken : modem_taken_count past ≤ length (to_modem wire past)) where
    abbrev before : List Fact
    before = Judged c (message_count c past + 1) m Forward ∷ past

    abbrev request : Request
    request = request_of s c m n before

    abbrev sent : List Fact
    sent = Forwarded request ∷ before

    added : add s (Says c m) past ≡ grant_if (uses_id m) c m sent
    added =
        ap (λ (b : Bool). if b then hear_client s c m past else past) there
        ∙ ap (λ (decision : Decision). judge s c m decision past) decided

    behind : Adds wire sent after
    behind = further wire sent (grant_if (uses_id m) c m sent) after (granted (uses_id m) c m sent) (subst (λ (l : List Fact). Adds wire l after) added rest)

    counts : message_count c before ≡ message_count c past + 1
    unfolding message_count
    counts = ap (λ (b : Bool). if b then message_count c past + 1 else message_count c past) (eq-eqb c c refl)

    in_use_then : in_use sent ≡ in_use past ++ request ∷ []
    unfolding in_use
    in_use_then = refl

    bytes_then : to_modem wire sent ≡ to_modem wire past ++ wire request
    unfolding to_modem
    bytes_then = refl

    taken_then : modem_taken_count sent ≡ modem_taken_count past
    unfolding modem_taken_count
    taken_then = refl

    serial_then : request.serial ≡ forward_count sent
    unfolding forward_count
    serial_then = refl

    queued : IsQueued c m past after
    queued = record {
      request = request;
      sender = refl;
      place = counts;
      message = refl;
      number = (forwarded_have_the_next_number s c n m past decided).0;
      waits = waits_behind wire request past sent after in_use_then bytes_then taken_then serial_then behind was_taken;
    }

-- ---- the whole event ----

pub forwarded_requests_are_queued : (s : Setup) (events : List Event) (c : ℕ) (piece : List ℕ) (earlier later : List (List ℕ)) (m : List ℕ) (n : ℕ)
    → AreSound (qmi_protocol s) events → messages_of_piece size_of (stream c events) piece ≡ earlier ++ m ∷ later
    → is_present c (facts_before_saying s events c earlier) ≡ true → decision_on s c m (facts_before_saying s events c earlier) ≡ Forwards n
    → IsQueued c m (facts_before_saying s events c earlier) (history s (Piece c piece ∷ events))
forwarded_requests_are_queued s events c piece earlier later m n sound brings there decided =
    let regular : Regular (facts_before_saying s events c earlier) =
    regular_items s (map (λ m. Says c m) earlier) (EventBegan ∷ history s events) (each_message (λ item. joins_or_modem_takes item ≡ false) (λ m. Says c m) earlier (λ m. refl))
    (regular_begun s (history s events) (histories_are_regular s events sound))
    in
    queued s c m n (facts_before_saying s events c earlier) (history s (Piece c piece ∷ events)) there decided (rest_adds (qmi_protocol s) (Asks s) (orderly s) events c earlier piece later m brings) regular.was_taken
