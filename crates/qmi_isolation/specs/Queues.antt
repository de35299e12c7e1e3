-- What stands in the queues at the end of an event, whatever the event brings behind it.
-- Lists of events and of facts have the newest first; requests and bytes have the oldest first.
use Rattle.std.specs.Prelude.{◌≡◌, ◌≢◌, ℕ, ◌+◌, true, List, ◌∷◌, ◌++◌, map, Some, Contains}
use Rattle.qmux_frame.specs.declared.kind.MessageKind.TheVariants as kind
use Rattle.qmux_frame.specs.Frame.{size_of}
use Rattle.qmux_frame.specs.Kind.{framed_kind}
use Rattle.proxy_history.specs.Events.{Event, Piece, ModemPiece}
use Rattle.proxy_history.specs.Items.{Says}
use Rattle.proxy_history.specs.Streams.{stream, modem_stream, messages_of_piece}
use Rattle.proxy_history.specs.Facts.{Fact, Request, EventBegan}
use Rattle.proxy_history.specs.Decision.{Forwards}
use Rattle.proxy_history.specs.Connections.{is_present, message_count}
use Rattle.proxy_history.specs.Requests.{pending}
use Rattle.proxy_history.specs.Standing.{WaitsBehind, IsServed}
use Rattle.proxy_history.specs.Coming.{AreSound}
use Rattle.qmi_proxy.specs.Limits.{qmi_limits}
use Rattle.qmi_proxy.specs.Setup.{Setup}
use Rattle.qmi_proxy.specs.Text.{qmi_wording}
use Rattle.qmi_proxy.specs.Clients.{wire, number_for, decision_on}
use Rattle.qmi_proxy.specs.FromModem.{is_answered_by}
use Rattle.qmi_proxy.specs.History.{qmi_protocol, add_all, history}
use Rattle.qmi_isolation.specs.Laws.{facts_before, due}

-- ---- requests ----

-- the history just before a message of a client, behind those that came before it in one piece
abbrev pub facts_before_saying : Setup → List Event → ℕ → List (List ℕ) → List Fact
facts_before_saying s events c earlier = add_all s (map (λ m. Says c m) earlier) (EventBegan ∷ history s events)

-- the client's message became a request, which has the next number of its space and waits for the modem
pub record IsQueued (c : ℕ) (m : List ℕ) (past after : List Fact) : Type 0 where
  pub request : Request
  pub sender : request.conn ≡ c
  pub place : request.place ≡ message_count c past + 1
  pub message : request.message ≡ m
  pub number : number_for m past ≡ Some request.number
  pub waits : WaitsBehind wire request past after

-- these events may come, and then this piece of the client c comes; a message of it that is forwarded stands in the modem's queue once the whole piece was met
-- No piece of a client loses the modem, and the modem takes nothing meanwhile; so nothing else is asked of the event.
abbrev pub ForwardedRequestsAreQueued : Type 0
ForwardedRequestsAreQueued = (s : Setup) (events : List Event) (c : ℕ) (piece : List ℕ) (earlier later : List (List ℕ)) (m : List ℕ) (number : ℕ)
    → AreSound (qmi_protocol s) events → messages_of_piece size_of (stream c events) piece ≡ earlier ++ m ∷ later
    → is_present c (facts_before_saying s events c earlier) ≡ true
    → decision_on s c m (facts_before_saying s events c earlier) ≡ Forwards number
    → IsQueued c m (facts_before_saying s events c earlier) (history s (Piece c piece ∷ events))

-- ---- answers ----

-- these events may come, and then this piece of the modem comes; what it answers to a client's request whose sender waits stands in the sender's queue once the whole piece was met
abbrev pub AnswersStand : Type 0
AnswersStand = (s : Setup) (events : List Event) (stream piece : List ℕ) (earlier later : List (List ℕ)) (m : List ℕ) (r : Request)
    → AreSound (qmi_protocol s) events → modem_stream size_of s.starts_away events ≡ Some stream
    → messages_of_piece size_of stream piece ≡ earlier ++ m ∷ later → framed_kind m ≡ Some kind.Response
    → Contains (pending (facts_before s events earlier)) r → is_answered_by m r ≡ true → r.conn ≢ 0
    → IsServed qmi_limits (qmi_wording s.device) r.conn (due r m (facts_before s events earlier)) (facts_before s events earlier) (history s (ModemPiece piece ∷ events))
