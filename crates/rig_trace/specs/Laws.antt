-- What the laws say of the trace and the ledger of a rig. Lists of events and of facts have the newest first.
use Rattle.std.specs.Prelude.{◌≡◌, ℕ, ◌<◌, ◌≤◌, List, [], ◌∷◌, length, map}
use Rattle.proxy_history.specs.Events.{Event}
use Rattle.proxy_history.specs.Proxy.{Proxy}
use Rattle.proxy_history.specs.Facts.{Fact, Request}
use Rattle.proxy_history.specs.Connections.{message_count}
use Rattle.proxy_history.specs.Requests.{in_use, forward_count}
use Rattle.proxy_history.specs.Modem.{now}
use Rattle.rig_runs.specs.Counts.{Summary}
use Rattle.rig_trace.specs.Rows.{Reading, Row, Counts, Ledger, names, said_by, ledger_of}
use Rattle.rig_trace.specs.Trace.{trace_of}
use Rattle.rig_trace.specs.Alone.{met_alone, IsSameAlone}

-- so it is of each client of each rig with at least one client, and no more than may be there
abbrev pub OfEachClient : (rig : (clients turns number : ℕ) → List Event) → (ℕ → List Event → Type 0) → Type 0
OfEachClient rig P = (clients turns number : ℕ) → 1 ≤ clients → clients ≤ 64 → (c : ℕ) → 1 ≤ c → c ≤ clients → P c (rig clients turns number)

-- what it meets of the trace is what it would meet alone
abbrev pub MeetsItsPart : Reading → Proxy → (solo : ℕ → List Event → List Event) → ℕ → List Event → Type 0
MeetsItsPart reading p solo c events = met_alone reading p c (trace_of reading p events) ≡ solo c events

-- and alone it takes the same bytes
abbrev pub TakesTheSame : Reading → Proxy → ℕ → List Event → Type 0
TakesTheSame reading p c events = IsSameAlone reading p c [] (trace_of reading p events)

-- ---- rows ----

-- what the ledger keeps is what the facts say: its rows are those of the requests in use, in order of asking
pub record Mirrors (row_of : Request → Row) (past : List Fact) (ledger : Ledger) : Type 0 where
  pub rows : ledger.rows ≡ map row_of (in_use past)
  pub asked : ledger.asked ≡ forward_count past
  pub time : ledger.time ≡ now past
  pub names_are : length ledger.said ≡ names
  pub said : (c : ℕ) → c < names → said_by c ledger ≡ message_count c past

-- at every moment of these events
abbrev pub AllMirror : (row_of : Request → Row) → Reading → Proxy → (history : List Event → List Fact) → List Event → Type 0
AllMirror row_of reading p history [] = Mirrors row_of (history []) (ledger_of reading p [])
AllMirror row_of reading p history (event ∷ events) = Mirrors row_of (history (event ∷ events)) (ledger_of reading p (event ∷ events)) × AllMirror row_of reading p history events

-- so it is in each rig with at least one client, and no more than may be there
abbrev pub AreMirrored : (rig : (clients turns number : ℕ) → List Event) → (row_of : Request → Row) → Reading → Proxy → (history : List Event → List Fact) → Type 0
AreMirrored rig row_of reading p history = (clients turns number : ℕ) → 1 ≤ clients → clients ≤ 64 → AllMirror row_of reading p history (rig clients turns number)

-- ---- counts ----

-- in so many turns the clock stays far below 2^64 milliseconds
abbrev pub most_turns : ℕ
most_turns = 100000

-- the ledger counts what the facts say
pub record Counted (counts : Counts) (summary : Summary) : Type 0 where
  pub forwarded : counts.forwarded ≡ summary.forwarded
  pub answered : counts.answered ≡ summary.answered
  pub expired : counts.expired ≡ summary.expired
  pub late : counts.late ≡ summary.late
  pub refused : counts.refused ≡ summary.refused

-- so it is of each rig that isn't longer
abbrev pub AreCounted : (rig : (clients turns number : ℕ) → List Event) → (summary : (clients turns : ℕ) → List Event → Summary) → Reading → Proxy → Type 0
AreCounted rig summary reading p = (clients turns number : ℕ) → 1 ≤ clients → clients ≤ 64 → turns ≤ most_turns → Counted (ledger_of reading p (rig clients turns number)).counts (summary clients turns (rig clients turns number))
