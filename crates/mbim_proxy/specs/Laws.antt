-- What holds of the history of every MBIM proxy, whatever its events. Lists of events and of facts have the newest first.
use Rattle.std.specs.Prelude.{◌≡◌, ◌≢◌, ◌+◌, ◌≤◌, ℕ, Bool, true, false, not, ◌&&◌, if◌then◌else◌, List, [], ◌∷◌, ◌++◌, length, drop, reverse, filter_map, All, AllPairs, is_none}
use Rattle.mbim_frame.specs.Frame.{size_of}
use Rattle.proxy_history.specs.Events.{Event, Joined, Took, ModemTook, joins_or_takes, is_anothers, modem_takes}
use Rattle.proxy_history.specs.Streams.{modem_stream}
use Rattle.proxy_history.specs.Facts.{Fact, Why, EventBegan, Ended}
use Rattle.proxy_history.specs.Connections.{present, is_present, dropped}
use Rattle.proxy_history.specs.Requests.{in_use, pending, numbers_in_use}
use Rattle.proxy_history.specs.Modem.{now, is_away, modem_taken_count}
use Rattle.proxy_history.specs.Rendering.{empty, take_waiting, Grows}
use Rattle.proxy_history.specs.HungUp.{hung_up_by, is_beginning}
use Rattle.proxy_history.specs.Sound.{IsSound, IsPresent, IsParty, Differ, begins_anew, EndsWithItsEnd}
use Rattle.proxy_history.specs.Adding.{IsOrderly}
use Rattle.proxy_history.specs.Orderly.{Anything, time_then}
use Rattle.proxy_history.specs.View.{Entry}
use Rattle.proxy_history.specs.Wording.{text_behind}
use Rattle.mbim_proxy.specs.Setup.{Setup, mbim_setup}
use Rattle.mbim_proxy.specs.Step.{view_of}
use Rattle.mbim_proxy.specs.Text.{mbim_wording}
use Rattle.mbim_proxy.specs.Lists.{waiting}
use Rattle.mbim_proxy.specs.OwnList.{is_free}
use Rattle.mbim_proxy.specs.History.{mbim_protocol, history, text_for, to_modem, modem_queue}

-- each part of the protocol adds no more than it may
abbrev pub MbimIsOrderly : Type 0
MbimIsOrderly = (s : Setup) → IsOrderly (mbim_protocol s) Anything

-- each fact may follow those before it
abbrev pub HistoriesAreSound : Type 0
HistoriesAreSound = (s : Setup) (events : List Event) → IsSound s.limits (history s events)

-- two requests in use have different transaction numbers, where no more may be in use than there are
abbrev pub NumbersInUseDiffer : Type 0
NumbersInUseDiffer = (s : Setup) (events : List Event) → ((space : ℕ) → s.limits.in_use space ≤ s.limits.top space) → AllPairs Differ (in_use (history s events))

-- ---- who is there ----

-- who waits for an answer is there, or is the proxy itself
abbrev pub AskersArePresent : Type 0
AskersArePresent = (s : Setup) (events : List Event) → All (λ r. IsParty r.conn (history s events)) (pending (history s events))

-- who waits for the modem to open is there
abbrev pub WaitingArePresent : Type 0
WaitingArePresent = (s : Setup) (events : List Event) → All (λ c. IsPresent c (history s events)) (waiting s (history s events))

-- no more connections are there, and no more numbers in use, than may be
abbrev pub FewArePresent : Type 0
FewArePresent = (s : Setup) (events : List Event) → length (present (history s events)) ≤ s.limits.connections

abbrev pub FewAreInUse : Type 0
FewAreInUse = (s : Setup) (events : List Event) (space : ℕ) → length (numbers_in_use space (history s events)) ≤ s.limits.in_use space

-- a connection that ended gets no further entry, until one of its name comes anew
abbrev pub NothingFollowsAnEnd : Type 0
NothingFollowsAnEnd = (s : Setup) (events : List Event) (c : ℕ) (why : Why) (later earlier : List Fact)
    → c ≢ 0 → history s events ≡ later ++ Ended c why ∷ earlier → All (λ fact. begins_anew c fact ≡ false) later
    → view_of c (history s events) ≡ view_of c (Ended c why ∷ earlier)

-- an entry that says how the connection ended is the newest of its view
abbrev pub EndsAreLast : Type 0
EndsAreLast = (s : Setup) (events : List Event) (c : ℕ) → c ≢ 0 → EndsWithItsEnd (view_of c (history s events))

-- the facts of one event, behind the fact that begins it; the names to hang up are those that these facts end, but for those that went by themselves
pub record AddsAnEvent (before after : List Fact) : Type 0 where
  pub since : List Fact
  pub whole : after ≡ since ++ EventBegan ∷ before
  pub none : All (λ fact. is_beginning fact ≡ false) since
  pub hung_up : dropped after ≡ filter_map hung_up_by (reverse since)

abbrev pub EventsHangUpTheirOwn : Type 0
EventsHangUpTheirOwn = (s : Setup) (event : Event) (events : List Event) → AddsAnEvent (history s events) (history s (event ∷ events))

-- ---- the bytes for a client, from one event to the next ----

-- whatever another client does, they stay as they are
abbrev pub OthersChangeNothing : Type 0
OthersChangeNothing = (s : Setup) (c : ℕ) (event : Event) (events : List Event) → is_anothers c event ≡ true → text_for s c (event ∷ events) ≡ text_for s c events

-- the bytes of an entry are of the client's view and of the device's path: equal views get equal bytes, however long requests wait and wherever the modem was at the opening
abbrev pub EqualViewsGetEqualBytes : Type 0
EqualViewsGetEqualBytes = (device : List ℕ) (time_limit other_limit : ℕ) (starts_away other_away : Bool) (entries : List Entry) (entry : Entry)
    → text_behind (mbim_wording (mbim_setup device time_limit starts_away)) entries entry ≡ text_behind (mbim_wording (mbim_setup device other_limit other_away)) entries entry

-- where the client doesn't join and its socket takes nothing, its bytes stay, and more may come behind them
abbrev pub BytesOnlyGrow : Type 0
BytesOnlyGrow = (s : Setup) (c : ℕ) (event : Event) (events : List Event)
    → joins_or_takes c event ≡ false → Grows (text_for s c events) (text_for s c (event ∷ events))

-- a client that joins has none yet, whether it is let in or refused
abbrev pub JoiningStartsWithNone : Type 0
JoiningStartsWithNone = (s : Setup) (c : ℕ) (events : List Event) → text_for s c (Joined c ∷ events) ≡ empty

-- a taking takes the first of those that wait, and of a connection that isn't there none
abbrev pub TakingTakesTheFirst : Type 0
TakingTakesTheFirst = (s : Setup) (c count : ℕ) (events : List Event)
    → text_for s c (Took c count ∷ events) ≡ (if is_present c (history s events) then take_waiting count (text_for s c events) else text_for s c events)

-- a connection that is there got all that was due to it: there was room for each entry's bytes
abbrev pub NobodyThereIsOver : Type 0
NobodyThereIsOver = (s : Setup) (events : List Event) (c : ℕ) → is_present c (history s events) ≡ true → (text_for s c events).is_over ≡ false

-- no more bytes wait for a client than may
abbrev pub NoMoreWaitThanMay : Type 0
NoMoreWaitThanMay = (s : Setup) (events : List Event) (c : ℕ) → length (text_for s c events).waiting ≤ s.limits.outbox

-- ---- the modem and the clock ----

-- the facts say that the modem is away exactly while its stream says so
abbrev pub AwayAgrees : Type 0
AwayAgrees = (s : Setup) (events : List Event) → is_away s.starts_away (history s events) ≡ is_none (modem_stream size_of s.starts_away events)

-- no more bytes wait for the modem than may
abbrev pub NoMoreWaitForTheModemThanMay : Type 0
NoMoreWaitForTheModemThanMay = (s : Setup) (events : List Event) → length (modem_queue s events) ≤ s.limits.modem_outbox

-- the modem was there, and is away once the event was met
abbrev pub loses_modem : Setup → Event → List Event → Bool
loses_modem s event events = not (is_away s.starts_away (history s events)) && is_away s.starts_away (history s (event ∷ events))

-- where the modem takes nothing and isn't lost, the bytes for it stay, and more may come behind them
pub record GoesOnWith (before after : List ℕ) : Type 0 where
  pub more : List ℕ
  pub bytes : after ≡ before ++ more

abbrev pub ModemBytesOnlyGrow : Type 0
ModemBytesOnlyGrow = (s : Setup) (event : Event) (events : List Event) → modem_takes event ≡ false → loses_modem s event events ≡ false
    → GoesOnWith (to_modem s events) (to_modem s (event ∷ events))

-- a loss leaves none
abbrev pub LossLeavesNone : Type 0
LossLeavesNone = (s : Setup) (event : Event) (events : List Event) → loses_modem s event events ≡ true → to_modem s (event ∷ events) ≡ []

-- the modem took the first of the bytes that waited, and what the proxy itself asks now that there is room waits behind the others
pub record TakesTheFirst (before : List ℕ) (count : ℕ) (after : List ℕ) : Type 0 where
  pub more : List ℕ
  pub waiting : after ≡ drop count before ++ more

abbrev pub ModemTakesTheFirst : Type 0
ModemTakesTheFirst = (s : Setup) (count : ℕ) (events : List Event) → modem_taken_count (history s events) + count ≤ length (to_modem s events)
    → TakesTheFirst (modem_queue s events) count (modem_queue s (ModemTook count ∷ events))

-- while the proxy may ask nothing itself, a taking brings nothing, and the proxy may ask nothing still; and where it may ask behind a taking, the taking brought nothing
-- So the modem's takings bring one request at most.
pub record BringsOneRequest (s : Setup) (count : ℕ) (events : List Event) : Type 0 where
  pub none : is_free s (history s events) ≡ false → modem_queue s (ModemTook count ∷ events) ≡ drop count (modem_queue s events)
  pub stays : is_free s (history s events) ≡ false → is_free s (history s (ModemTook count ∷ events)) ≡ false
  pub one : is_free s (history s (ModemTook count ∷ events)) ≡ true → modem_queue s (ModemTook count ∷ events) ≡ drop count (modem_queue s events)

abbrev pub TakingsBringOneRequest : Type 0
TakingsBringOneRequest = (s : Setup) (count : ℕ) (events : List Event) → BringsOneRequest s count events

-- the time once an event was met is the greatest that the clock showed
abbrev pub TimeIsTheGreatest : Type 0
TimeIsTheGreatest = (s : Setup) (event : Event) (events : List Event) → now (history s (event ∷ events)) ≡ time_then event (now (history s events))
