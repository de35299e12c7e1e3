-- What stands in the queues at the end of an event, whatever the event brings behind it.
-- Lists of events and of facts have the newest first; requests and bytes have the oldest first.
use Rattle.std.specs.Prelude.{◌≡◌, ◌≢◌, ℕ, ◌+◌, true, false, List, ◌∷◌, ◌++◌, map, Some, Contains}
use Rattle.mbim_frame.specs.declared.kind.MessageKind.TheVariants.{Open}
use Rattle.mbim_frame.specs.Frame.{size_of}
use Rattle.mbim_frame.specs.Head.{is_kind}
use Rattle.mbim_frame.specs.Writing.{open_done}
use Rattle.proxy_history.specs.Events.{Event, Piece, ModemPiece}
use Rattle.proxy_history.specs.Items.{Says, delivered_by_piece}
use Rattle.proxy_history.specs.Streams.{stream, modem_stream, messages_of_piece}
use Rattle.proxy_history.specs.Facts.{Fact, Request, EventBegan}
use Rattle.proxy_history.specs.Decision.{Forwards}
use Rattle.proxy_history.specs.Connections.{contains, is_present, message_count}
use Rattle.proxy_history.specs.Requests.{pending}
use Rattle.proxy_history.specs.Standing.{WaitsBehind, IsServed}
use Rattle.proxy_history.specs.History as proxy
use Rattle.proxy_history.specs.Coming.{AreSound}
use Rattle.mbim_proxy.specs.Setup.{Setup}
use Rattle.mbim_proxy.specs.Known.{waiting_number}
use Rattle.mbim_proxy.specs.Step.{known_now}
use Rattle.mbim_proxy.specs.Text.{mbim_wording}
use Rattle.mbim_proxy.specs.ModemStates.{is_own_open}
use Rattle.mbim_proxy.specs.Lists.{waiting}
use Rattle.mbim_proxy.specs.Forwarding.{wire, number_for}
use Rattle.mbim_proxy.specs.Clients.{command_message, decision_for}
use Rattle.mbim_proxy.specs.FromModem.{heard_as, is_answered_by, opening_status}
use Rattle.mbim_proxy.specs.History.{mbim_protocol, history}
use Rattle.mbim_state.specs.Core.{HasNumbers}
use Rattle.mbim_isolation.specs.Laws.{facts_before, is_reply, due}

-- ---- requests ----

-- the history just before a message of a client, behind those that came before it in one piece
abbrev pub facts_before_saying : Setup → List Event → ℕ → List (List ℕ) → List Fact
facts_before_saying s events c earlier = proxy.add_all (mbim_protocol s) (map (λ m. Says c m) earlier) (EventBegan ∷ history s events)

-- the command that the client's message completes became a request, which has the next number and waits for the modem
pub record IsQueued (s : Setup) (c : ℕ) (m : List ℕ) (past after : List Fact) : Type 0 where
  pub request : Request
  pub sender : request.conn ≡ c
  pub place : request.place ≡ message_count c past + 1
  pub message : request.message ≡ command_message s (known_now s c past) m
  pub number : number_for s request.message past ≡ Some request.number
  pub waits : WaitsBehind (wire s) request past after

-- these events may come, and then this piece of the client c comes; a command of it that is forwarded stands in the modem's queue once the whole piece was met
-- No piece of a client loses the modem, and the modem takes nothing meanwhile; so nothing else is asked of the event.
abbrev pub ForwardedCommandsAreQueued : Type 0
ForwardedCommandsAreQueued = (s : Setup) (events : List Event) (c : ℕ) (piece : List ℕ) (earlier later : List (List ℕ)) (m : List ℕ) (number : ℕ)
    → AreSound (mbim_protocol s) events → messages_of_piece size_of (stream c events) piece ≡ earlier ++ m ∷ later
    → is_present c (facts_before_saying s events c earlier) ≡ true → is_kind Open m ≡ false
    → decision_for s (known_now s c (facts_before_saying s events c earlier)) c m (facts_before_saying s events c earlier) ≡ Forwards number
    → IsQueued s c m (facts_before_saying s events c earlier) (history s (Piece c piece ∷ events))

-- ---- answers ----

-- these events may come, and then this piece of the modem comes; what it answers to a client's command that waits stands in the client's queue once the whole piece was met
abbrev pub AnswersStand : Type 0
AnswersStand = (s : Setup) (events : List Event) (stream piece : List ℕ) (earlier later : List (List ℕ)) (m : List ℕ) (r : Request)
    → HasNumbers s → AreSound (mbim_protocol s) events → modem_stream size_of s.starts_away events ≡ Some stream
    → delivered_by_piece (mbim_protocol s) stream piece ≡ earlier ++ m ∷ later → is_reply (heard_as m) ≡ true
    → Contains (pending (facts_before s events earlier)) r → r.conn ≢ 0 → is_answered_by (heard_as m) m r ≡ true
    → IsServed s.limits (mbim_wording s) r.conn (due s r m (facts_before s events earlier)) (facts_before s events earlier) (history s (ModemPiece piece ∷ events))

-- and so does the answer to a request to open, where the modem answers the proxy's own and the client waits for that
abbrev pub OpeningsStand : Type 0
OpeningsStand = (s : Setup) (events : List Event) (stream piece : List ℕ) (earlier later : List (List ℕ)) (m : List ℕ) (r : Request) (c : ℕ)
    → HasNumbers s → AreSound (mbim_protocol s) events → modem_stream size_of s.starts_away events ≡ Some stream
    → delivered_by_piece (mbim_protocol s) stream piece ≡ earlier ++ m ∷ later → is_reply (heard_as m) ≡ true → c ≢ 0
    → Contains (pending (facts_before s events earlier)) r → is_own_open r ≡ true → is_answered_by (heard_as m) m r ≡ true
    → contains c (waiting s (facts_before s events earlier)) ≡ true
    → IsServed s.limits (mbim_wording s) c (open_done (waiting_number (known_now s c (facts_before s events earlier)).waits) (opening_status m)) (facts_before s events earlier) (history s (ModemPiece piece ∷ events))
