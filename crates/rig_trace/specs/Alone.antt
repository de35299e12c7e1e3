-- A client's part of a trace, which it meets alone. Lists of events have the newest first, and a trace is told in its order.
use Rattle.std.specs.Prelude.{◌≡◌, ℕ, ◌≤◌, ◌==◌, if◌then◌else◌, List, [], ◌∷◌, fold, length, take, Option, Some, None}
use Rattle.proxy_history.specs.Events.{Event, Joined, Piece, ModemPiece, Now, Took}
use Rattle.proxy_history.specs.Coming.{piece_limit}
use Rattle.proxy_history.specs.Proxy.{Proxy}
use Rattle.rig_runs.specs.Stage.{modem_takes}
use Rattle.rig_trace.specs.Rows.{Reading, number_at, ledger_of}
use Rattle.rig_trace.specs.Trace.{Met}
use Rattle.rig_trace.specs.declared.trace.Met.TheVariants.{Joins, Said, Heard, Takes, ClockShows}

-- the proxy meets an event, and then the modem takes all that waits for it
abbrev pub meets : Proxy → Event → List Event → List Event
meets p event own = modem_takes p (event ∷ own)

-- an answer, under the number that its request has; none where it has none
abbrev pub hears : Reading → Proxy → Option ℕ → (message : List ℕ) → List Event → List Event
hears reading p None m own = own
hears reading p (Some number) m own = meets p (ModemPiece (reading.with_number number m)) own

-- the number that the client's message from this place has where it is alone
abbrev pub own_number : Reading → Proxy → (conn place : ℕ) → (own : List Event) → Option ℕ
own_number reading p c place own = number_at c place (ledger_of reading p own).rows

-- what the client meets of it; `own` is what it met so far
abbrev pub meet_met : Reading → Proxy → ℕ → (own : List Event) → Met → List Event
meet_met reading p c own (Joins d) = if d == c then meets p (Joined c) own else own
meet_met reading p c own (Said d m) = if d == c then meets p (Piece c m) own else own
meet_met reading p c own (Heard d place m) = if d == c then hears reading p (own_number reading p c place own) m own else own
meet_met reading p c own (Takes d bytes) = if d == c then meets p (Took c (length bytes)) own else own
meet_met reading p c own (ClockShows time) = meets p (Now time) own

abbrev pub met_alone : Reading → Proxy → ℕ → List Met → List Event
met_alone reading p c trace = fold (meet_met reading p c) [] trace

-- ---- whether it is the same alone ----

-- a request has that number, and the answer comes whole
abbrev pub IsShort : Reading → Option ℕ → (message : List ℕ) → Type 0
IsShort reading None m = ⊥
IsShort reading (Some number) m = length (reading.with_number number m) ≤ piece_limit

-- it comes before all else, speaks in one piece, has asked for what it hears, and finds the bytes that it takes waiting
abbrev pub IsSame : Reading → Proxy → ℕ → (own : List Event) → Met → Type 0
IsSame reading p c own (Joins d) = d ≡ c → own ≡ []
IsSame reading p c own (Said d m) = d ≡ c → length m ≤ piece_limit
IsSame reading p c own (Heard d place m) = d ≡ c → IsShort reading (own_number reading p c place own) m
IsSame reading p c own (Takes d bytes) = d ≡ c → take (length bytes) (p.waiting c own) ≡ bytes
IsSame reading p c own (ClockShows time) = Unit {0}

-- so it is with each of them in turn, and in the end nothing more waits for it
unfoldable pub IsSameAlone : Reading → Proxy → ℕ → (own : List Event) → List Met → Type 0
IsSameAlone reading p c own [] = p.waiting c own ≡ []
IsSameAlone reading p c own (met ∷ trace) = IsSame reading p c own met × IsSameAlone reading p c (meet_met reading p c own met) trace
