-- What is noted of a proxy: the ledger and the trace of its events. Lists of events have the newest first, and a trace is told in its order.
use Rattle.std.specs.Prelude.{◌≡◌, ℕ, Bool, false, List, [], ◌∷◌, ◌++◌}
use Rattle.proxy_history.specs.Events.{Event}
use Rattle.proxy_history.specs.Proxy.{Proxy}
use Rattle.rig_trace.specs.Rows.{Reading, Ledger, empty, follow, ledger_of}
use Rattle.rig_trace.specs.Trace.{met_by, trace_of}
use Rattle.rig_trace.specs.declared.Met.{Met}

pub record Noted : Type 0 where
  pub ledger : Ledger
  pub trace : List Met
  -- something couldn't be noted, so that it isn't known what was left out
  pub failed : Bool

-- nothing was noted
abbrev pub nothing : Noted
nothing = record { ledger = empty; trace = []; failed = false }

-- the trace goes on
abbrev pub told : Met → Noted → Noted
told met noted = record noted { trace = noted.trace ++ met ∷ [] }

-- an event came, these bytes were new in the modem's queue then, and a client took these
abbrev pub with_event : Reading → Event → (asked taken : List ℕ) → Noted → Noted
with_event reading event asked taken noted = record {
  ledger = follow reading event asked noted.ledger;
  trace = noted.trace ++ met_by reading event asked taken noted.ledger;
  failed = noted.failed;
}

-- it was noted, unless something couldn't be noted then or before
abbrev pub NotesEvent : Reading → Event → (asked taken : List ℕ) → (old new : Noted) → Type 0
NotesEvent reading event asked taken old new = new.failed ≡ false → new ≡ with_event reading event asked taken old

-- just these events were noted, unless something couldn't be noted
pub record AreNoted (reading : Reading) (p : Proxy) (past : List Event) (noted : Noted) : Type 0 where
  pub ledger : noted.failed ≡ false → noted.ledger ≡ ledger_of reading p past
  pub trace : noted.failed ≡ false → noted.trace ≡ trace_of reading p past
