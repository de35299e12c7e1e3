-- What holds of the history of every QMI proxy, whatever its events. Lists of events and of facts have the newest first.
use Rattle.std.specs.Prelude.{◌≡◌, ◌≢◌, ◌≤◌, ℕ, true, false, List, ◌∷◌, ◌++◌, length, All, AllPairs, is_none}
use Rattle.qmux_frame.specs.Frame.{size_of}
use Rattle.proxy_history.specs.Events.{Event, Joined, Took}
pub use Rattle.proxy_history.specs.Events.{joins_or_takes}
use Rattle.proxy_history.specs.Streams.{modem_stream}
use Rattle.proxy_history.specs.Facts.{Fact, Why, Ended}
use Rattle.proxy_history.specs.Connections.{present, is_present}
use Rattle.proxy_history.specs.Requests.{in_use, pending, numbers_in_use}
use Rattle.proxy_history.specs.ClientIds.{held}
use Rattle.proxy_history.specs.Modem.{is_away}
use Rattle.proxy_history.specs.Rendering.{empty, take_waiting, Grows}
use Rattle.proxy_history.specs.Sound.{IsSound, IsParty, Differ, begins_anew, EndsWithItsEnd}
use Rattle.qmi_proxy.specs.Setup.{Setup}
use Rattle.qmi_proxy.specs.Spaces.{limit_of}
use Rattle.qmi_proxy.specs.Limits.{connection_limit, qmi_limits}
use Rattle.qmi_proxy.specs.Text.{view_of}
use Rattle.qmi_proxy.specs.History.{history, text_for}

-- each fact may follow those before it
abbrev pub HistoriesAreSound : Type 0
HistoriesAreSound = (s : Setup) (events : List Event) → IsSound qmi_limits (history s events)

-- two requests in use in one number space have different transaction numbers
abbrev pub NumbersInUseDiffer : Type 0
NumbersInUseDiffer = (s : Setup) (events : List Event) → AllPairs Differ (in_use (history s events))

-- who waits for an answer and who holds a client id is there, or is the proxy itself
abbrev pub WaitingArePresent : Type 0
WaitingArePresent = (s : Setup) (events : List Event) → All (λ r. IsParty r.conn (history s events)) (pending (history s events))

abbrev pub HoldersArePresent : Type 0
HoldersArePresent = (s : Setup) (events : List Event) → All (λ g. IsParty g.conn (history s events)) (held (history s events))

-- no more connections are there, and no more numbers of a space in use, than may be
abbrev pub FewArePresent : Type 0
FewArePresent = (s : Setup) (events : List Event) → length (present (history s events)) ≤ connection_limit

abbrev pub FewAreInUse : Type 0
FewAreInUse = (s : Setup) (events : List Event) (space : ℕ) → length (numbers_in_use space (history s events)) ≤ limit_of space

-- a connection that ended gets no further entry, until one of its name comes anew
abbrev pub NothingFollowsAnEnd : Type 0
NothingFollowsAnEnd = (s : Setup) (events : List Event) (c : ℕ) (why : Why) (later earlier : List Fact)
    → c ≢ 0 → history s events ≡ later ++ Ended c why ∷ earlier → All (λ fact. begins_anew c fact ≡ false) later
    → view_of c (history s events) ≡ view_of c (Ended c why ∷ earlier)

-- an entry that says how the connection ended is the newest of its view
abbrev pub EndsAreLast : Type 0
EndsAreLast = (s : Setup) (events : List Event) (c : ℕ) → c ≢ 0 → EndsWithItsEnd (view_of c (history s events))

-- the facts say that the modem is away exactly while its stream says so
abbrev pub AwayAgrees : Type 0
AwayAgrees = (s : Setup) (events : List Event) → is_away s.starts_away (history s events) ≡ is_none (modem_stream size_of s.starts_away events)

-- ---- the bytes for a client, from one event to the next ----

-- where the client doesn't join and its socket takes nothing, its bytes stay, and more may come behind them
abbrev pub BytesOnlyGrow : Type 0
BytesOnlyGrow = (s : Setup) (c : ℕ) (event : Event) (events : List Event)
    → joins_or_takes c event ≡ false → Grows (text_for s c events) (text_for s c (event ∷ events))

-- a client that joins has none yet, whether it is let in or refused
abbrev pub JoiningStartsWithNone : Type 0
JoiningStartsWithNone = (s : Setup) (c : ℕ) (events : List Event) → text_for s c (Joined c ∷ events) ≡ empty

-- a taking takes the first of those that wait
abbrev pub TakingTakesTheFirst : Type 0
TakingTakesTheFirst = (s : Setup) (c count : ℕ) (events : List Event)
    → is_present c (history s events) ≡ true → text_for s c (Took c count ∷ events) ≡ take_waiting count (text_for s c events)

-- a taking of a connection that isn't there takes none
abbrev pub TakingOfTheAbsentTakesNone : Type 0
TakingOfTheAbsentTakesNone = (s : Setup) (c count : ℕ) (events : List Event)
    → is_present c (history s events) ≡ false → text_for s c (Took c count ∷ events) ≡ text_for s c events
