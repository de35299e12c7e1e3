-- What the clients of a QMI proxy have of each other: nothing. What others do leaves a client's bytes as they are, and an answer of the modem has one receiver.
-- Lists of events and of facts have the newest first.
use Rattle.std.specs.Prelude.{◌≡◌, ◌≢◌, ℕ, ◌+◌, true, false, ◌&&◌, ◌==◌, if◌then◌else◌, List, ◌∷◌, ◌++◌, map, Some, All, Contains}
use Rattle.qmux_frame.specs.declared.kind.MessageKind.TheVariants as kind
use Rattle.qmux_frame.specs.Head.{service_of, is_control, cid_of, number_of}
use Rattle.qmux_frame.specs.Kind.{framed_kind}
use Rattle.qmux_frame.specs.Reply.{with_number, result_reply}
use Rattle.proxy_history.specs.Events.{Event, is_anothers}
use Rattle.proxy_history.specs.Items.{ModemSays, ClockShows}
use Rattle.proxy_history.specs.Facts.{Verdict, Forward, Fact, Request, EventBegan, Judged, Forwarded, Answered, IdHeld, Granted, Freed}
use Rattle.proxy_history.specs.Connections.{contains, message_count}
use Rattle.proxy_history.specs.Requests.{in_use, pending, has_request, numbers_in_use}
use Rattle.proxy_history.specs.ClientIds.{holder, is_holder, is_other}
use Rattle.proxy_history.specs.Rendering.{put}
use Rattle.proxy_history.specs.Coming.{AreSound}
use Rattle.qmi_proxy.specs.Limits.{outbox_limit}
use Rattle.qmi_proxy.specs.Setup.{Setup}
use Rattle.qmi_proxy.specs.Errors.{client_ids_exhausted}
use Rattle.qmi_proxy.specs.Messages.{used_service, used_cid}
use Rattle.qmi_proxy.specs.Text.{note, rendering}
use Rattle.qmi_proxy.specs.Clients.{holder_for, hear_client}
use Rattle.qmi_proxy.specs.FromModem.{is_answered_by, brings_id, holder_of_brought, hear_modem, receivers, tell, abort_all, lose}
use Rattle.qmi_proxy.specs.History.{qmi_protocol, add, add_all, history, text_for}

-- ---- what other clients do ----

-- whatever it is, the client's bytes stay as they are
abbrev pub OthersChangeNothing : Type 0
OthersChangeNothing = (s : Setup) (c : ℕ) (event : Event) (events : List Event)
    → is_anothers c event ≡ true → text_for s c (event ∷ events) ≡ text_for s c events

-- ---- what the modem answers ----

-- the history just before a message of the modem, behind those that came before it in one piece
abbrev pub facts_before : Setup → List Event → List (List ℕ) → List Fact
facts_before s events earlier = add_all s (map (λ m. ModemSays m) earlier) (EventBegan ∷ history s events)

-- what the sender of a request gets for this answer: the answer under its own number, or a refusal where it brings a client id that another client or the proxy itself holds
abbrev pub due : Request → List ℕ → List Fact → List ℕ
due r m past =
    if brings_id r.message m && is_other r.conn (holder_of_brought m past) then result_reply r.message client_ids_exhausted
    else with_number (number_of r.message) m

-- the sender gets it where it finds room, nobody else gets anything, and no later message answers the request
pub record IsDelivered (device : List ℕ) (r : Request) (m : List ℕ) (past after : List Fact) : Type 0 where
  pub sender : rendering device r.conn after ≡ put outbox_limit (due r m past) (rendering device r.conn past)
  pub others : (c : ℕ) → c ≢ r.conn → rendering device c after ≡ rendering device c past
  pub once : has_request r (in_use after) ≡ false

-- these events may come, and `m` is the modem's answer to a client's request whose sender waits
abbrev pub AnswersHaveOneReceiver : Type 0
AnswersHaveOneReceiver = (s : Setup) (events : List Event) (earlier : List (List ℕ)) (m : List ℕ) (r : Request)
    → AreSound (qmi_protocol s) events → framed_kind m ≡ Some kind.Response
    → Contains (pending (facts_before s events earlier)) r → is_answered_by m r ≡ true → r.conn ≢ 0
    → IsDelivered s.device r m (facts_before s events earlier) (hear_modem s.device m (facts_before s events earlier))

-- an answer to the proxy's own request is noted, whatever it says, and the proxy doesn't hold the client id any more that it was to release: no client gets anything, and no later message answers the request
pub record IsForNobody (device : List ℕ) (r : Request) (m : List ℕ) (past after : List Fact) : Type 0 where
  pub facts : after ≡ Freed 0 (used_service r.message) (used_cid r.message) ∷ Answered r m ∷ past
  pub clients : (c : ℕ) → c ≢ 0 → rendering device c after ≡ rendering device c past
  pub once : has_request r (in_use after) ≡ false
  pub freed : is_holder 0 (holder (used_service r.message) (used_cid r.message) after) ≡ false

abbrev pub OwnAnswersAreForNobody : Type 0
OwnAnswersAreForNobody = (s : Setup) (events : List Event) (earlier : List (List ℕ)) (m : List ℕ) (r : Request)
    → AreSound (qmi_protocol s) events → framed_kind m ≡ Some kind.Response
    → Contains (pending (facts_before s events earlier)) r → is_answered_by m r ≡ true → r.conn ≡ 0
    → IsForNobody s.device r m (facts_before s events earlier) (hear_modem s.device m (facts_before s events earlier))

-- an answer to a client that brings a client id which another connection or the proxy itself holds grants nothing: it is noted as such
abbrev pub HeldIdsAreNotGranted : Type 0
HeldIdsAreNotGranted = (s : Setup) (events : List Event) (earlier : List (List ℕ)) (m : List ℕ) (r : Request)
    → framed_kind m ≡ Some kind.Response
    → Contains (pending (facts_before s events earlier)) r → is_answered_by m r ≡ true → r.conn ≢ 0
    → brings_id r.message m ≡ true → is_other r.conn (holder_of_brought m (facts_before s events earlier)) ≡ true
    → hear_modem s.device m (facts_before s events earlier) ≡ note s.device (IdHeld r) (facts_before s events earlier)

-- so no client id is ever granted while another client holds it
abbrev pub IdsAreFreeWhenGranted : Type 0
IdsAreFreeWhenGranted = (s : Setup) (events : List Event) (later past : List Fact) (c service cid : ℕ)
    → history s events ≡ later ++ Granted c service cid ∷ past → is_other c (holder service cid past) ≡ false

-- a client's message that uses a client id which another client holds isn't forwarded, and grants nothing: it is judged alone
abbrev pub HeldIdsAreNotUsed : Type 0
HeldIdsAreNotUsed = (s : Setup) (c : ℕ) (m : List ℕ) (past : List Fact) → is_other c (holder_for m past) ≡ true
    → (verdict : Verdict) × (verdict ≢ Forward) × (hear_client s c m past ≡ note s.device (Judged c (message_count c past + 1) m verdict) past)

-- a late answer, or one to nothing: no sender waits for it, and nobody gets it
abbrev pub OtherAnswersHaveNone : Type 0
OtherAnswersHaveNone = (s : Setup) (events : List Event) (earlier : List (List ℕ)) (m : List ℕ) (c : ℕ)
    → framed_kind m ≡ Some kind.Response
    → All (λ r. is_answered_by m r ≡ false) (pending (facts_before s events earlier))
    → rendering s.device c (hear_modem s.device m (facts_before s events earlier)) ≡ rendering s.device c (facts_before s events earlier)

-- ---- what the modem tells by itself ----

-- an indication is for its receivers, each once
abbrev pub IndicationsReachTheirReceivers : Type 0
IndicationsReachTheirReceivers = (device m : List ℕ) (past : List Fact) (c : ℕ)
    → rendering device c (tell device m past) ≡ (if contains c (receivers device m past) then put outbox_limit m (rendering device c past) else rendering device c past)

-- one for a client id is for its holder alone
abbrev pub HoldersAloneAreTold : Type 0
HoldersAloneAreTold = (device m : List ℕ) (past : List Fact) (c : ℕ)
    → is_control m ≡ false → (cid_of m == 255) ≡ false → contains c (receivers device m past) ≡ true
    → holder (service_of m) (cid_of m) past ≡ Some c

-- ---- refusals in place of answers ----

-- the client waits for no answer
abbrev pub IsIdle : ℕ → List Fact → Type 0
IsIdle c past = All (λ r. r.conn ≢ c) (pending past)

-- the clock, a modem that began anew and one that is lost bring refusals, and those who wait for nothing get none; nor do they get anything of the client ids that the proxy itself releases by the clock
abbrev pub TheIdleAreNotRefused : Type 0
TheIdleAreNotRefused = (s : Setup) (past : List Fact) (c : ℕ) → IsIdle c past
    → ((time : ℕ) → rendering s.device c (add s (ClockShows time) past) ≡ rendering s.device c past)
    × (rendering s.device c (abort_all s.device past) ≡ rendering s.device c past)
    × (rendering s.device c (lose s.device past) ≡ rendering s.device c past)

-- ---- the numbers that the modem sees ----

-- a number that is given is one that no request of its space has in use, not even one whose time is over
abbrev pub NumbersAreFreeWhenGiven : Type 0
NumbersAreFreeWhenGiven = (s : Setup) (events : List Event) (later past : List Fact) (r : Request)
    → history s events ≡ later ++ Forwarded r ∷ past
    → contains r.number (numbers_in_use r.space past) ≡ false
