-- The trace and the ledger of a rig for MBIM.
use Rattle.std.specs.Prelude.{ℕ, if◌then◌else◌}
use Rattle.proxy_history.specs.Facts.{Request}
use Rattle.mbim_proxy.specs.ModemStates.{is_own_open}
use Rattle.mbim_proxy.specs.Forwarding.{wire}
use Rattle.mbim_proxy.specs.Proxy.{proxy_of}
use Rattle.mbim_proxy.specs.History.{history}
use Rattle.mbim_solo.specs.Solo.{solo}
use Rattle.rig_runs.specs.Mbim.{setup, mbim_rig}
use Rattle.rig_runs.specs.MbimLines.{summary}
use Rattle.rig_trace.specs.declared.rows.Row.{Row}
use Rattle.rig_trace.specs.Mbim.{key_of, mbim_reading}
use Rattle.rig_trace.specs.Laws.{OfEachClient, MeetsItsPart, TakesTheSame, AreMirrored, AreCounted}

-- what each client meets of the trace is what it would meet alone
abbrev pub EachMeetsItsPart : Type 0
EachMeetsItsPart = OfEachClient mbim_rig (MeetsItsPart mbim_reading (proxy_of setup) (solo setup))

-- and alone it takes the same bytes
abbrev pub EachTakesTheSame : Type 0
EachTakesTheSame = OfEachClient mbim_rig (TakesTheSame mbim_reading (proxy_of setup))

-- a request in use, as it stands in the ledger: the proxy's own request to open is made for the client whose second message asks for that
abbrev pub row_of : (opener : ℕ) → Request → Row
row_of opener r = record {
  serial = r.serial;
  conn = if is_own_open r then opener else r.conn;
  place = if is_own_open r then 2 else r.place;
  key = key_of (wire setup r);
  own = is_own_open r;
  deadline = r.deadline;
}

-- at every moment the ledger keeps what the facts say: its rows are the requests in use, and the first client has the modem opened
abbrev pub RowsAreInUse : Type 0
RowsAreInUse = AreMirrored mbim_rig (row_of 1) mbim_reading (proxy_of setup) (history setup)

-- the ledger counts what the facts say
abbrev pub RequestsAreCounted : Type 0
RequestsAreCounted = AreCounted mbim_rig (summary setup) mbim_reading (proxy_of setup)
