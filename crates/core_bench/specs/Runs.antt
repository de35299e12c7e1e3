-- What is run on a bench. Lists of runs and of events have the newest first.
use Rattle.std.specs.Prelude.{◌≡◌, ℕ, List, [], ◌∷◌, Option, Some, None}
use Rattle.std.specs.Str.{chars}
use Rattle.kit_bytes.specs.declared.kind.Kind.{Kind}
use Rattle.kit_bytes.specs.declared.kind.Kind.TheVariants.{Qmi, Mbim}
use Rattle.hub_io.specs.declared.settings.Limits.{Limits}
use Rattle.proxy_history.specs.Events.{Event}
use Rattle.proxy_history.specs.Proxy.{Proxy}
use Rattle.qmi_proxy.specs.Proxy as qmi
use Rattle.qmi_core.specs.Meaning.{setup_of}
use Rattle.mbim_proxy.specs.Proxy as mbim
use Rattle.mbim_core.specs.Meaning.{opening_setup}

-- a core was opened like this, and met these events
pub record Run : Type 0 where
  pub kind : Kind
  pub limits : Limits
  -- the path of the device
  pub device : List ℕ
  pub events : List Event

-- what a proxy says that is opened like this; the modem is there at the opening
abbrev pub proxy_for : Kind → Limits → (device : List ℕ) → Proxy
proxy_for Qmi limits device = qmi.proxy_of (setup_of limits device)
proxy_for Mbim limits device = mbim.proxy_of (opening_setup limits (chars device))

-- ---- the runs grow, until the bench tells of none any more: the newer list is None from then on ----

-- a core was opened
abbrev pub AddsRun : Option (List Run) → Run → Option (List Run) → Type 0
AddsRun old run None = Unit {0}
AddsRun None run (Some new) = ⊥
AddsRun (Some old) run (Some new) = new ≡ run ∷ old

-- the newest run met an event
abbrev pub with_event : Event → List Run → List Run
with_event event [] = []
with_event event (run ∷ runs) = record run { events = event ∷ run.events } ∷ runs

abbrev pub AddsEvent : Option (List Run) → Event → Option (List Run) → Type 0
AddsEvent old event None = Unit {0}
AddsEvent None event (Some new) = ⊥
AddsEvent (Some old) event (Some new) = new ≡ with_event event old
