-- A bench that notes what is met on the bench that it owns. Lists of events have the newest first.
use Rattle.std.specs.Prelude.{List}
use Rattle.proxy_history.specs.Events.{Event}
use Rattle.proxy_history.specs.Proxy.{Proxy}
use Rattle.rig_trace.specs.Rows.{Reading}
use Rattle.rig_notes.specs.Notes.{AreNoted}
use Rattle.rig_notes.specs.declared.noting.Noting.{Noting}

-- the bench inside keeps what a proxy has to keep of these events, and just these were noted
pub record Keeps {R B : Type 0} (reading : Reading) (keeps : Proxy → List Event → B → Type 0) (p : Proxy) (past : List Event) (noting : Noting R B) : Type 0 where
  pub kept : keeps p past noting.bench
  pub noted : AreNoted reading p past noting.notes
