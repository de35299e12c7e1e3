-- A ledger of requests in use, kept from what clients and modem say and from what waits for the modem.
-- It is right where, as in a rig, each piece is one whole message, nobody leaves, the modem stays and gives answers alone, and the proxy asks nothing by itself but to open.
-- Rows stand in order of asking; lists of events have the newest first.
use Rattle.std.specs.Prelude.{ℕ, ◌+◌, max, Bool, not, ◌&&◌, ◌==◌, nat_lt, nat_le, if◌then◌else◌, List, [], ◌∷◌, ◌++◌, length, filter, drop, replicate, slice_index_or, slice_set, Option, Some, None}
use Rattle.proxy_history.specs.Events.{Event, Piece, ModemPiece, Now}
use Rattle.proxy_history.specs.Proxy.{Proxy}
use Rattle.proxy_history.specs.Requests.{deadline_of}
pub use Rattle.rig_trace.specs.declared.rows.Key.{Key}
pub use Rattle.rig_trace.specs.declared.rows.Row.{Row}
pub use Rattle.rig_trace.specs.declared.rows.Counts.{Counts}

-- ---- how messages are read ----

pub record Reading : Type 0 where
  -- what a request, as the modem sees it, and its answer have in common
  pub of_request : List ℕ → Key
  pub of_answer : List ℕ → Key
  -- whether a request is one that the proxy makes by itself, for the client that made it do so
  pub is_own : List ℕ → Bool
  -- whether a client opens the device by this message
  pub opens : List ℕ → Bool
  -- what the modem says to a client that says this and is alone, where beside others the modem is asked nothing
  pub at_once : List ℕ → Option (List ℕ)
  -- an answer under another number
  pub with_number : ℕ → List ℕ → List ℕ
  -- how long a request waits for its answer, in milliseconds
  pub time_limit : ℕ

-- ---- rows ----

abbrev pub is_same_key : Key → Key → Bool
is_same_key k l = k.kind == l.kind && (k.cid == l.cid) && (k.number == l.number)

-- the first of them with this key
abbrev pub first_with : Key → List Row → Option Row
first_with key [] = None
first_with key (row ∷ rows) = if is_same_key key row.key then Some row else first_with key rows

abbrev pub without_row : Row → List Row → List Row
without_row row rows = filter (λ other. not (row.serial == other.serial)) rows

-- the number of the request that the client made by its message from this place
abbrev pub number_at : (conn place : ℕ) → List Row → Option ℕ
number_at c place [] = None
number_at c place (row ∷ rows) = if row.conn == c && (row.place == place) then Some row.key.number else number_at c place rows

-- ---- the ledger ----

pub record Ledger : Type 0 where
  pub rows : List Row
  -- how many requests the modem was asked
  pub asked : ℕ
  -- the clock, in milliseconds
  pub time : ℕ
  -- how many messages each client said, by its name
  pub said : List ℕ
  -- what became of the clients' requests
  pub counts : Counts

-- the names of clients are below this
abbrev pub names : ℕ
names = 65

abbrev pub none : Counts
none = record { forwarded = 0; answered = 0; expired = 0; late = 0; refused = 0 }

abbrev pub empty : Ledger
empty = record { rows = []; asked = 0; time = 0; said = replicate names 0; counts = none }

abbrev pub said_by : ℕ → Ledger → ℕ
said_by c ledger = slice_index_or ledger.said c 0

abbrev pub more_said : ℕ → Ledger → List ℕ
more_said c ledger = slice_set ledger.said c (said_by c ledger + 1)

-- ---- a client says something ----

-- the request that a client made the proxy ask
abbrev pub row_for : Reading → ℕ → (asked : List ℕ) → Ledger → Row
row_for reading c asked ledger = record {
  serial = ledger.asked + 1;
  conn = c;
  place = said_by c ledger + 1;
  key = reading.of_request asked;
  own = reading.is_own asked;
  deadline = deadline_of ledger.time reading.time_limit;
}

abbrev pub one_forwarded : (own : Bool) → Counts → Counts
one_forwarded own counts = if own then counts else record counts { forwarded = counts.forwarded + 1 }

abbrev pub one_refused : (opens : Bool) → Counts → Counts
one_refused opens counts = if opens then counts else record counts { refused = counts.refused + 1 }

-- these bytes are new in the modem's queue then; where none are, the message was refused, unless it opens the device
abbrev pub has_said : Reading → ℕ → (message asked : List ℕ) → Ledger → Ledger
has_said reading c m [] ledger = record ledger { said = more_said c ledger; counts = one_refused (reading.opens m) ledger.counts }
has_said reading c m (byte ∷ asked) ledger = record ledger {
  rows = ledger.rows ++ row_for reading c (byte ∷ asked) ledger ∷ [];
  asked = ledger.asked + 1;
  said = more_said c ledger;
  counts = one_forwarded (reading.is_own (byte ∷ asked)) ledger.counts;
}

-- ---- the modem answers ----

-- whoever asked waits until the deadline
abbrev pub one_answered : Row → (time : ℕ) → Counts → Counts
one_answered row time counts =
    if row.own then counts
    else if nat_lt time row.deadline then record counts { answered = counts.answered + 1 }
    else record counts { late = counts.late + 1 }

abbrev pub has_answered : Option Row → Ledger → Ledger
has_answered None ledger = ledger
has_answered (Some row) ledger = record ledger { rows = without_row row ledger.rows; counts = one_answered row ledger.time ledger.counts }

-- ---- the time goes on ----

abbrev pub expires : (before after : ℕ) → Row → Bool
expires before after row = not row.own && nat_lt before row.deadline && nat_le row.deadline after

abbrev pub has_passed : (time : ℕ) → Ledger → Ledger
has_passed time ledger = record ledger {
  time = max time ledger.time;
  counts = record ledger.counts { expired = ledger.counts.expired + length (filter (expires ledger.time (max time ledger.time)) ledger.rows) };
}

-- ---- every event ----

-- an event came, and then these bytes were new in the modem's queue
abbrev pub follow : Reading → Event → (asked : List ℕ) → Ledger → Ledger
follow reading (Piece c m) asked ledger = has_said reading c m asked ledger
follow reading (ModemPiece m) asked ledger = has_answered (first_with (reading.of_answer m) ledger.rows) ledger
follow reading (Now time) asked ledger = has_passed time ledger
follow reading _ asked ledger = ledger

-- the bytes that an event behind these made new in the modem's queue
abbrev pub asked_by : Proxy → Event → (past : List Event) → List ℕ
asked_by p event past = drop (length (p.waiting_for_modem past)) (p.waiting_for_modem (event ∷ past))

unfoldable pub ledger_of : Reading → Proxy → List Event → Ledger
ledger_of reading p [] = empty
ledger_of reading p (event ∷ past) = follow reading event (asked_by p event past) (ledger_of reading p past)
