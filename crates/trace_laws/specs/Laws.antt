-- The trace and the ledger of a rig for QMI.
use Rattle.std.specs.Prelude.{false}
use Rattle.proxy_history.specs.Facts.{Request}
use Rattle.qmi_proxy.specs.Clients.{wire}
use Rattle.qmi_proxy.specs.Proxy.{proxy_of}
use Rattle.qmi_proxy.specs.History.{history}
use Rattle.qmi_solo.specs.Solo.{solo}
use Rattle.rig_runs.specs.Qmi.{setup, qmi_rig}
use Rattle.rig_runs.specs.Lines.{summary}
use Rattle.rig_trace.specs.declared.rows.Row.{Row}
use Rattle.rig_trace.specs.Qmi.{key_of, qmi_reading}
use Rattle.rig_trace.specs.Laws.{OfEachClient, MeetsItsPart, TakesTheSame, AreMirrored, AreCounted}

-- what each client meets of the trace is what it would meet alone
abbrev pub EachMeetsItsPart : Type 0
EachMeetsItsPart = OfEachClient qmi_rig (MeetsItsPart qmi_reading (proxy_of setup) (solo setup))

-- and alone it takes the same bytes
abbrev pub EachTakesTheSame : Type 0
EachTakesTheSame = OfEachClient qmi_rig (TakesTheSame qmi_reading (proxy_of setup))

-- a request in use, as it stands in the ledger
abbrev pub row_of : Request → Row
row_of r = record { serial = r.serial; conn = r.conn; place = r.place; key = key_of (wire r); own = false; deadline = r.deadline }

-- at every moment the ledger keeps what the facts say: its rows are the requests in use
abbrev pub RowsAreInUse : Type 0
RowsAreInUse = AreMirrored qmi_rig row_of qmi_reading (proxy_of setup) (history setup)

-- the ledger counts what the facts say
abbrev pub RequestsAreCounted : Type 0
RequestsAreCounted = AreCounted qmi_rig (summary setup) qmi_reading (proxy_of setup)
