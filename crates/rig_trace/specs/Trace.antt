-- What a proxy met, as much of it as each client needs to meet its part alone.
-- A trace is told in its order; lists of events have the newest first.
use Rattle.std.specs.Prelude.{ℕ, ◌+◌, List, [], ◌∷◌, ◌++◌, take, Option, Some, None}
use Rattle.proxy_history.specs.Events.{Event, Joined, Piece, ModemPiece, Now, Took}
use Rattle.proxy_history.specs.Proxy.{Proxy}
use Rattle.rig_trace.specs.Rows.{Reading, Row, Ledger, said_by, first_with, asked_by, ledger_of}
pub use Rattle.rig_trace.specs.declared.trace.Met.{Met}
use Rattle.rig_trace.specs.declared.trace.Met.TheVariants.{Joins, Said, Heard, Takes, ClockShows}

-- the modem says this to the client that said the message from this place
abbrev pub heard_at_once : (conn place : ℕ) → Option (List ℕ) → List Met
heard_at_once c place None = []
heard_at_once c place (Some answer) = Heard c place answer ∷ []

-- nothing where the modem was asked something
abbrev pub heard_if_unasked : (asked : List ℕ) → (conn place : ℕ) → Option (List ℕ) → List Met
heard_if_unasked [] c place answer = heard_at_once c place answer
heard_if_unasked (byte ∷ asked) c place answer = []

abbrev pub heard_by : Option Row → (message : List ℕ) → List Met
heard_by None m = []
heard_by (Some row) m = Heard row.conn row.place m ∷ []

-- what an event is in a trace, by the ledger before it; a taking of the modem, a leaving and a loss are left out
abbrev pub met_by : Reading → Event → (asked taken : List ℕ) → Ledger → List Met
met_by reading (Joined c) asked taken ledger = Joins c ∷ []
met_by reading (Piece c m) asked taken ledger = Said c m ∷ heard_if_unasked asked c (said_by c ledger + 1) (reading.at_once m)
met_by reading (ModemPiece m) asked taken ledger = heard_by (first_with (reading.of_answer m) ledger.rows) m
met_by reading (Took c count) asked taken ledger = Takes c taken ∷ []
met_by reading (Now time) asked taken ledger = ClockShows time ∷ []
met_by reading _ asked taken ledger = []

-- the bytes that a client takes by an event behind these
abbrev pub taken_by : Proxy → Event → (past : List Event) → List ℕ
taken_by p (Took c count) past = take count (p.waiting c past)
taken_by p _ past = []

unfoldable pub trace_of : Reading → Proxy → List Event → List Met
trace_of reading p [] = []
trace_of reading p (event ∷ past) = trace_of reading p past ++ met_by reading event (asked_by p event past) (taken_by p event past) (ledger_of reading p past)
