-- What a core of a proxy keeps, what it stands for, and what each event makes of it, by its protocol.
-- Lists of events have the newest first.
use Rattle.std.specs.Prelude.{◌≡◌, ℕ, ◌≤◌, true, List, [], length}
use Rattle.connections.specs.Table as table
use Rattle.proxy_history.specs.Events.{Event}
use Rattle.proxy_history.specs.Streams.{Framing}
use Rattle.proxy_state.specs.State.{Core, Handlers}
use Rattle.proxy_state.specs.Step as proxy
use Rattle.proxy_state.specs.Stands as stands
use Rattle.proxy_core.specs.Meaning.{Meaning}

module _ {T S P : Type 0} (d : Meaning T S P) where
  abbrev pub lasting_in : Core T S → d.Lasting
  lasting_in core = d.lasting core.state.beside

  abbrev pub handlers_in : Core T S → Handlers T S
  handlers_in core = d.handlers (lasting_in core)

  -- ---- what it stands for ----

  -- it met these events; of the dropped names some may have been asked for
  abbrev pub Stands : d.Setup → List Event → Core T S → Type 0
  Stands s events core = stands.Stands (d.protocol s) (d.kept s) events core

  -- just after the newest of these events: all names that it dropped are still to be asked for
  abbrev pub StandsAfter : d.Setup → List Event → Core T S → Type 0
  StandsAfter s events core = stands.StandsAfter (d.protocol s) (d.kept s) events core

  -- nothing has happened yet, and nobody is there
  abbrev pub opened_core : d.Setup → Core T S
  opened_core s = record { state = record { table = table.opened 64 262144; beside = (d.kept s).beside [] [] }; rest = [] }

  -- ---- each event ----

  abbrev pub CanStep : Event → Core T S → Type 0
  CanStep event core = stands.CanStep (handlers_in core) event core

  -- what an event changes before its end
  abbrev pub meet : Framing → Event → Core T S → Core T S
  meet size event core = proxy.meet (handlers_in core) size event core

  abbrev pub finished : Framing → Core T S → Core T S
  finished size core = proxy.finished (handlers_in core) size core

  abbrev pub lose : Framing → Core T S → Core T S
  lose size core = proxy.lose (handlers_in core) size core.state

  abbrev pub step : Framing → Event → Core T S → Core T S
  step size event core = proxy.step (handlers_in core) size event core

  -- ---- how many bytes wait at most ----

  pub record IsBounded (core : Core T S) : Type 0 where
    -- for each connection that is there, or was dropped and isn't asked for yet
    pub clients : (c : ℕ) → stands.is_owed c core ≡ true → length (stands.waiting_for c core) ≤ 262144
    pub modem : length ((handlers_in core).modem_queue core.state.beside) ≤ 1048576
