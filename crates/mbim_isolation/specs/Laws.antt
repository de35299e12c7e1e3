-- What the clients of an MBIM proxy have of each other: nothing. An answer of the modem has one receiver, and what is for several reaches each of them once and nobody else.
-- (That what another client does leaves a client's bytes as they are is a law of `mbim_proxy`.)
-- Lists of events and of facts have the newest first.
use Rattle.std.specs.Prelude.{◌≡◌, ◌≢◌, ℕ, Bool, true, false, not, ◌&&◌, ◌||◌, if◌then◌else◌, List, ◌∷◌, ◌++◌, map, None, All, Contains}
use Rattle.kit_bytes.specs.Indications.{wants}
use Rattle.mbim_frame.specs.declared.kind.MessageKind.TheVariants as kind
use Rattle.mbim_frame.specs.Kinds.{kind_number}
use Rattle.mbim_frame.specs.Head.{kind_of, is_kind, number_of, with_number}
use Rattle.mbim_frame.specs.Fragment.{body_of}
use Rattle.mbim_frame.specs.Bodies.{uuid_of, cid_of}
use Rattle.mbim_frame.specs.Writing.{open_done}
use Rattle.proxy_history.specs.Events.{Event}
use Rattle.proxy_history.specs.Items.{ModemSays, ModemIsLost, ClockShows}
use Rattle.proxy_history.specs.Facts.{Fact, Request, EventBegan, Forwarded}
use Rattle.proxy_history.specs.Connections.{contains, is_present}
use Rattle.proxy_history.specs.Requests.{in_use, pending, has_request, numbers_in_use}
use Rattle.proxy_history.specs.Rendering.{Rendering, put}
use Rattle.proxy_history.specs.Noting as noting
use Rattle.proxy_history.specs.History as proxy
use Rattle.proxy_history.specs.Coming.{AreSound}
use Rattle.mbim_proxy.specs.Setup.{Setup}
use Rattle.mbim_proxy.specs.Known.{waiting_number}
use Rattle.mbim_proxy.specs.Step.{known_now}
use Rattle.mbim_proxy.specs.Text.{in_fragments, mbim_wording}
use Rattle.mbim_proxy.specs.ModemStates.{is_own, is_own_open}
use Rattle.mbim_proxy.specs.Lists.{waiting, list_of}
use Rattle.mbim_proxy.specs.FromModem.{Heard, IsDone, IsOpenDone, IsError, IsIndication, heard_as, is_answered_by, opening_status, hear_modem}
use Rattle.mbim_proxy.specs.History.{mbim_protocol, history}
use Rattle.mbim_state.specs.Core.{HasNumbers}

-- the bytes for a client
abbrev pub bytes_for : Setup → (conn : ℕ) → List Fact → Rendering
bytes_for s c past = noting.rendering s.limits (mbim_wording s) c past

-- the history just before a message of the modem, behind those that came before it in one piece
abbrev pub facts_before : Setup → List Event → List (List ℕ) → List Fact
facts_before s events earlier = proxy.add_all (mbim_protocol s) (map (λ m. ModemSays m) earlier) (EventBegan ∷ history s events)

-- ---- what the modem answers ----

-- an answer, or an error in its place
abbrev pub is_reply : Heard → Bool
is_reply IsDone = true
is_reply IsOpenDone = true
is_reply IsError = true
is_reply _ = false

-- what the sender of a command gets for this answer: under its own number, and in fragments of its own length
abbrev pub due : Setup → Request → (message : List ℕ) → List Fact → List ℕ
due s r m past =
    if is_kind kind.FunctionError m then with_number (number_of r.message) m
    else in_fragments (known_now s r.conn past) (kind_of m) (number_of r.message) (body_of m)

-- the sender gets it where it finds room, and is gone where it doesn't; nobody else gets anything, and no later message answers the request
pub record IsDelivered (s : Setup) (r : Request) (m : List ℕ) (past after : List Fact) : Type 0 where
  pub sender : bytes_for s r.conn after ≡ put s.limits.outbox (due s r m past) (bytes_for s r.conn past)
  pub full : (bytes_for s r.conn after).is_over ≡ true → is_present r.conn after ≡ false
  pub others : (c : ℕ) → c ≢ r.conn → bytes_for s c after ≡ bytes_for s c past
  pub once : has_request r (in_use after) ≡ false

-- these events may come, and `m` is the modem's answer to a client's command that waits
abbrev pub AnswersHaveOneReceiver : Type 0
AnswersHaveOneReceiver = (s : Setup) (events : List Event) (earlier : List (List ℕ)) (m : List ℕ) (r : Request)
    → HasNumbers s → AreSound (mbim_protocol s) events → is_reply (heard_as m) ≡ true
    → Contains (pending (facts_before s events earlier)) r → r.conn ≢ 0 → is_answered_by (heard_as m) m r ≡ true
    → IsDelivered s r m (facts_before s events earlier) (hear_modem s m (facts_before s events earlier))

-- its answer brings bytes: to a client for its command, or for the proxy's own request to open to those who wait for that
abbrev pub is_awaited : Request → Bool
is_awaited r = not (is_own r) || is_own_open r

-- a late answer, one to nothing and one to the proxy's own request to subscribe: no client gets it
abbrev pub OtherAnswersHaveNone : Type 0
OtherAnswersHaveNone = (s : Setup) (events : List Event) (earlier : List (List ℕ)) (m : List ℕ) (c : ℕ)
    → heard_as m ≢ IsIndication → c ≢ 0
    → All (λ r. (is_answered_by (heard_as m) m r && is_awaited r) ≡ false) (pending (facts_before s events earlier))
    → bytes_for s c (hear_modem s m (facts_before s events earlier)) ≡ bytes_for s c (facts_before s events earlier)

-- ---- the opening ----

-- the modem answers the proxy's own request to open: those who wait for that are answered, each under its own number, and nobody else
abbrev pub OpeningsAnswerTheWaiting : Type 0
OpeningsAnswerTheWaiting = (s : Setup) (events : List Event) (earlier : List (List ℕ)) (m : List ℕ) (r : Request) (c : ℕ)
    → HasNumbers s → AreSound (mbim_protocol s) events → is_reply (heard_as m) ≡ true → c ≢ 0
    → Contains (pending (facts_before s events earlier)) r → is_own_open r ≡ true → is_answered_by (heard_as m) m r ≡ true
    → bytes_for s c (hear_modem s m (facts_before s events earlier))
    ≡ (if contains c (waiting s (facts_before s events earlier)) then put s.limits.outbox (open_done (waiting_number (known_now s c (facts_before s events earlier)).waits) (opening_status m)) (bytes_for s c (facts_before s events earlier))
    else bytes_for s c (facts_before s events earlier))

-- ---- what the modem tells by itself ----

-- the client is there and open, and wants the indication
abbrev pub is_told : Setup → (conn : ℕ) → (message : List ℕ) → List Fact → Bool
is_told s c m past = (is_present c past && (known_now s c past).opened) && wants (list_of s c past) (uuid_of (body_of m)) (cid_of (body_of m))

-- each such client gets it once, in fragments of its own length, and nobody else does
abbrev pub IndicationsReachTheirReceivers : Type 0
IndicationsReachTheirReceivers = (s : Setup) (m : List ℕ) (past : List Fact) (c : ℕ) → heard_as m ≡ IsIndication
    → bytes_for s c (hear_modem s m past)
    ≡ (if is_told s c m past then put s.limits.outbox (in_fragments (known_now s c past) (kind_number kind.IndicateStatus) 0 (body_of m)) (bytes_for s c past) else bytes_for s c past)

-- ---- refusals in place of answers ----

-- the client waits for no answer, and not for the modem to open
pub record IsIdle (s : Setup) (c : ℕ) (past : List Fact) : Type 0 where
  pub commands : All (λ r. r.conn ≢ c) (pending past)
  pub opening : (known_now s c past).waits ≡ None

-- the clock and a loss of the modem bring refusals, and those who wait for nothing get none
abbrev pub TheIdleAreNotRefused : Type 0
TheIdleAreNotRefused = (s : Setup) (past : List Fact) (c : ℕ) → IsIdle s c past
    → ((time : ℕ) → bytes_for s c (proxy.add (mbim_protocol s) (ClockShows time) past) ≡ bytes_for s c past)
    × (bytes_for s c (proxy.add (mbim_protocol s) ModemIsLost past) ≡ bytes_for s c past)

-- ---- the numbers that the modem sees ----

-- a number that is given is one that no request has in use, not even one whose time is over
abbrev pub NumbersAreFreeWhenGiven : Type 0
NumbersAreFreeWhenGiven = (s : Setup) (events : List Event) (later past : List Fact) (r : Request) → HasNumbers s
    → history s events ≡ later ++ Forwarded r ∷ past
    → contains r.number (numbers_in_use r.space past) ≡ false

-- the clock takes no request out of use: one whose time is over keeps its number until its answer comes or the modem is lost
abbrev pub TimeFreesNoNumber : Type 0
TimeFreesNoNumber = (s : Setup) (time : ℕ) (past : List Fact) → in_use (proxy.add (mbim_protocol s) (ClockShows time) past) ≡ in_use past
