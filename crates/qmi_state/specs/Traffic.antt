-- What a core keeps between the clients and the modem: the numbers in use, the client ids that are held or kept, and the bytes that wait for the modem.
-- Lists of facts have the newest first; all other lists have the oldest first.
use Rattle.std.specs.Prelude.{ℕ, Bool, true, false, if◌then◌else◌, List, [], ◌∷◌, ◌++◌, ◌==◌, filter, length, Option}
use Rattle.qmux_frame.specs.Head.{is_control}
use Rattle.qmux_frame.specs.Reply.{with_number}
use Rattle.proxy_history.specs.Facts.{Fact, Ended, Granted, Freed, Reset, ModemLost}
use Rattle.proxy_history.specs.ClientIds.{Grant, KeptId}
use Rattle.proxy_history.specs.Modem.{now, modem_queue}
use Rattle.proxy_history.specs.Requests as requests
use Rattle.qmi_proxy.specs.Spaces.{control_space, service_space, limit_of, top_of}
use Rattle.qmi_proxy.specs.Messages.{uses_id, used_service, used_cid}
use Rattle.qmi_proxy.specs.Clients.{wire, has_room}
use Rattle.qmi_proxy.specs.Releases.{release_of, number_if}
use Rattle.number_space.specs.declared.space.Row as space
use Rattle.number_space.specs.Table.{Table, next_number, answers, settles_number, orphans, resets}
use Rattle.number_space.specs.Table as table
use Rattle.holders.specs.Grants.{granted, releases, leaves}
use Rattle.holders.specs.Kept.{kept_without, all_kept_from}
use Rattle.proxy_state.specs.Requests as requests_of
use Rattle.proxy_state.specs.Requests.{RequestInUse, requests_in_use}
use Rattle.qmi_state.specs.Asked.{Asked, asked_of}

-- a number in use
abbrev pub Row : Type 0
Row = space.Row Asked

-- the numbers of a space: those in use in order of giving, the last one that was given, and their limits
abbrev pub Numbers : Type 0
Numbers = Table Asked

pub record Traffic : Type 0 where
  -- the numbers of service 0, and those of all other services
  pub control : Numbers
  pub services : Numbers
  -- the client ids that are held, and those whose holders went
  pub held : List Grant
  pub kept : List KeptId
  -- the bytes that wait for the modem
  pub waiting : List ℕ

-- ---- what the history says of them ----

-- the client ids that are held, in the order of the ids
unfoldable pub ids : List Fact → List Grant
ids [] = []
ids (Granted c service cid ∷ past) = granted c service cid (ids past)
ids (Freed c service cid ∷ past) = releases c service cid (ids past)
ids (Ended c why ∷ past) = leaves c (ids past)
ids (Reset ∷ past) = []
ids (ModemLost ∷ past) = []
ids (_ ∷ past) = ids past

-- and those whose holders went
unfoldable pub kept_ids : List Fact → List KeptId
kept_ids [] = []
kept_ids (Granted c service cid ∷ past) = kept_without service cid (kept_ids past)
kept_ids (Ended c why ∷ past) = all_kept_from (now past) (filter (λ g. c == g.conn) (ids past)) (kept_ids past)
kept_ids (Reset ∷ past) = []
kept_ids (ModemLost ∷ past) = []
kept_ids (_ ∷ past) = kept_ids past

abbrev pub row_of : RequestInUse → Row
row_of a = requests_of.row_of asked_of a

abbrev pub rows_of : ℕ → List RequestInUse → List Row
rows_of space requests = requests_of.rows_of asked_of space requests

abbrev pub numbers_of : ℕ → List Fact → Numbers
numbers_of space past = record { rows = rows_of space (requests_in_use past); last = requests.last_number space past; limit = limit_of space; top = top_of space }

abbrev pub traffic_of : List Fact → Traffic
traffic_of past = record { control = numbers_of control_space past; services = numbers_of service_space past; held = ids past; kept = kept_ids past; waiting = modem_queue wire past }

-- ---- the numbers of a space ----

abbrev pub of_control : Bool → Traffic → Numbers
of_control true traffic = traffic.control
of_control false traffic = traffic.services

abbrev pub with_numbers : Bool → Numbers → Traffic → Traffic
with_numbers control numbers traffic = record traffic {
  control = if control then numbers else traffic.control;
  services = if control then traffic.services else numbers;
}

abbrev pub gives : Row → Numbers → Numbers
gives row numbers = record numbers { rows = numbers.rows ++ row ∷ []; last = row.number }

abbrev pub row_numbered : ℕ → List Row → Option Row
row_numbered n rows = table.row_of n rows

-- the number is free again
abbrev pub frees : ℕ → Numbers → Numbers
frees n numbers = answers n numbers

-- nobody waits for the number any more; it stays in use
abbrev pub silences : ℕ → Numbers → Numbers
silences n numbers = record numbers { rows = settles_number n numbers.rows }

-- ---- the traffic ----

-- the number that a message would get
abbrev pub number_at : List ℕ → Traffic → Option ℕ
number_at m traffic = next_number (of_control (is_control m) traffic)

abbrev pub granted_if : Bool → ℕ → List ℕ → List Grant → List Grant
granted_if true c m held = granted c (used_service m) (used_cid m) held
granted_if false c m held = held

abbrev pub kept_if : Bool → List ℕ → List KeptId → List KeptId
kept_if true m kept = kept_without (used_service m) (used_cid m) kept
kept_if false m kept = kept

abbrev pub row_for : ℕ → ℕ → List ℕ → ℕ → Row
row_for deadline c m number = record { number = number; conn = c; note = asked_of m; deadline = deadline; pending = true }

-- a message of c goes to the modem under this number
abbrev pub forwards : ℕ → ℕ → List ℕ → ℕ → Traffic → Traffic
forwards deadline c m number traffic = record {
  control = if is_control m then gives (row_for deadline c m number) traffic.control else traffic.control;
  services = if is_control m then traffic.services else gives (row_for deadline c m number) traffic.services;
  held = granted_if (uses_id m) c m traffic.held;
  kept = kept_if (uses_id m) m traffic.kept;
  waiting = traffic.waiting ++ with_number number m;
}

-- the connection holds the id, which is kept no more
abbrev pub grants_id : ℕ → ℕ → ℕ → Traffic → Traffic
grants_id conn service cid traffic = record traffic { held = granted conn service cid traffic.held; kept = kept_without service cid traffic.kept }

-- the id is nobody's, where this connection held it
abbrev pub frees_id : ℕ → ℕ → ℕ → Traffic → Traffic
frees_id conn service cid traffic = record traffic { held = releases conn service cid traffic.held }

-- a connection is gone, and its ids are kept since this time
abbrev pub gives_up : ℕ → ℕ → Traffic → Traffic
gives_up c time traffic = record {
  control = orphans c traffic.control;
  services = orphans c traffic.services;
  held = leaves c traffic.held;
  kept = all_kept_from time (filter (λ g. c == g.conn) traffic.held) traffic.kept;
  waiting = traffic.waiting;
}

-- the modem knows of no number and no client id
abbrev pub forgets : Traffic → Traffic
forgets traffic = record traffic { control = resets traffic.control; services = resets traffic.services; held = []; kept = [] }

-- a message of c gets the next number of its space, where one is free
abbrev pub gives_next : ℕ → ℕ → List ℕ → Traffic → Traffic
gives_next deadline c m traffic = with_numbers (is_control m) (table.gives c (asked_of m) deadline (of_control (is_control m) traffic)) traffic

abbrev pub adopts_unless : Bool → ℕ → List ℕ → Traffic → Traffic
adopts_unless true c m traffic = traffic
adopts_unless false c m traffic = record traffic { held = granted_if (uses_id m) c m traffic.held; kept = kept_if (uses_id m) m traffic.kept }

-- ---- requests of the proxy itself ----

-- the number under which the proxy's own Release of this id would go, where one is free and there is room
abbrev pub number_for_own : KeptId → Traffic → Option ℕ
number_for_own k traffic = number_if (has_room (length traffic.waiting) (release_of k.service k.cid)) (next_number traffic.control)

-- the proxy itself asks the modem to release the id, and holds it from then on
abbrev pub asks_release : ℕ → KeptId → ℕ → Traffic → Traffic
asks_release deadline k number traffic = record {
  control = gives (row_for deadline 0 (release_of k.service k.cid) number) traffic.control;
  services = traffic.services;
  held = granted 0 k.service k.cid traffic.held;
  kept = kept_without k.service k.cid traffic.kept;
  waiting = traffic.waiting ++ with_number number (release_of k.service k.cid);
}
