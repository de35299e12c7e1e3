-- What holds of the history of every orderly protocol, whatever its events. Lists of events and of facts have the newest first.
-- `Known` is what a client's own view tells of it.
use Rattle.std.specs.Prelude.{◌≡◌, ℕ, ◌≤◌, max, true, false, if◌then◌else◌, List, ◌∷◌, length, is_none}
use Rattle.proxy_history.specs.Events.{Event, Joined, Now, Took, joins_or_takes, is_anothers}
use Rattle.proxy_history.specs.Streams.{modem_stream}
use Rattle.proxy_history.specs.Facts.{Fact, Request}
use Rattle.proxy_history.specs.Connections.{is_present}
use Rattle.proxy_history.specs.Modem.{now, is_away}
use Rattle.proxy_history.specs.Rendering.{empty, take_waiting, Grows}
use Rattle.proxy_history.specs.Sound.{IsSound}
use Rattle.proxy_history.specs.Protocol.{Protocol}
use Rattle.proxy_history.specs.History.{history, text_for, modem_queue}
use Rattle.proxy_history.specs.Adding.{AllFit, IsOrderly}

-- nothing more is asked of a request than what all have
abbrev pub Anything : Request → List Fact → Type 0
Anything r past = Unit {0}

-- each fact may follow those before it
abbrev pub OrderlyHistoriesAreSound : Type 0 → Type 0
OrderlyHistoriesAreSound Known = (p : Protocol Known) → IsOrderly p Anything → (events : List Event) → IsSound p.limits (history p events)

-- ---- the bytes for a client ----

-- whatever another client does, a client's bytes stay as they are
abbrev pub OthersChangeNothing : Type 0 → Type 0
OthersChangeNothing Known = (p : Protocol Known) → IsOrderly p Anything → (c : ℕ) (event : Event) (events : List Event)
    → is_anothers c event ≡ true → text_for p c (event ∷ events) ≡ text_for p c events

-- where the client doesn't join and its socket takes nothing, its bytes stay, and more may come behind them
abbrev pub BytesOnlyGrow : Type 0 → Type 0
BytesOnlyGrow Known = (p : Protocol Known) → IsOrderly p Anything → (c : ℕ) (event : Event) (events : List Event)
    → joins_or_takes c event ≡ false → Grows (text_for p c events) (text_for p c (event ∷ events))

-- a client that joins has none yet, whether it is let in or refused
abbrev pub JoiningStartsWithNone : Type 0 → Type 0
JoiningStartsWithNone Known = (p : Protocol Known) → IsOrderly p Anything → (c : ℕ) (events : List Event) → text_for p c (Joined c ∷ events) ≡ empty

-- a taking takes the first of those that wait, and of a connection that isn't there none
abbrev pub TakingTakesTheFirst : Type 0 → Type 0
TakingTakesTheFirst Known = (p : Protocol Known) → IsOrderly p Anything → (c count : ℕ) (events : List Event)
    → text_for p c (Took c count ∷ events) ≡ (if is_present c (history p events) then take_waiting count (text_for p c events) else text_for p c events)

-- a connection that is there got all that was due to it
abbrev pub NobodyThereIsOver : Type 0 → Type 0
NobodyThereIsOver Known = (p : Protocol Known) → IsOrderly p Anything → (events : List Event) → AllFit p.limits p.wording (history p events)

-- ---- the modem and the clock ----

-- no more bytes wait for the modem than may
abbrev pub FewWaitForTheModem : Type 0 → Type 0
FewWaitForTheModem Known = (p : Protocol Known) → IsOrderly p Anything → (events : List Event) → length (modem_queue p events) ≤ p.limits.modem_outbox

-- the facts say that the modem is away exactly while its stream says so
abbrev pub AwayAgrees : Type 0 → Type 0
AwayAgrees Known = (p : Protocol Known) → IsOrderly p Anything → (events : List Event)
    → is_away p.starts_away (history p events) ≡ is_none (modem_stream p.size p.starts_away events)

-- the time once an event was met: the greatest that the clock showed
abbrev pub time_then : Event → ℕ → ℕ
time_then (Now time) before = max time before
time_then _ before = before

abbrev pub TimeIsTheGreatest : Type 0 → Type 0
TimeIsTheGreatest Known = (p : Protocol Known) → IsOrderly p Anything → (event : Event) (events : List Event)
    → now (history p (event ∷ events)) ≡ time_then event (now (history p events))
