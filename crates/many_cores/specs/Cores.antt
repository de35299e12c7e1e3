-- The cores of several QMI devices, and what they make of what they meet. Lists of events have the newest first.
use Rattle.std.specs.Prelude.{◌≡◌, ℕ, zero, suc, ◌≤◌, List, [], ◌∷◌, length, get_or, slice_get, Some}
use Rattle.proxy_history.specs.Events.{Event}
use Rattle.proxy_history.specs.Events as history
use Rattle.proxy_solo.specs.Cores.{hung_up, core_after}
use Rattle.qmux_frame.specs.Frame.{size_of}
use Rattle.proxy_state.specs.Step as device
use Rattle.qmi_state.specs.Core.{QmiCore}
use Rattle.qmi_state.specs.Transitions.{qmi_handlers}

-- ---- one core ----

-- it meets these events, and whom it dropped is asked for before the next
abbrev pub after : List Event → QmiCore → QmiCore
after events core = core_after core (device.step qmi_handlers size_of) events

-- it meets one
abbrev pub met : Event → QmiCore → QmiCore
met event core = device.step qmi_handlers size_of event (hung_up core)

-- a client says these pieces, in their order
unfoldable pub said : ℕ → List (List ℕ) → QmiCore → QmiCore
said name [] core = core
said name (piece ∷ pieces) core = said name pieces (met (history.Piece name piece) core)

-- ---- all of them ----

-- the core of a device
abbrev pub IsCore : QmiCore → List QmiCore → ℕ → Type 0
IsCore core cores d = core ≡ get_or cores d core

abbrev pub at_place : {X : Type 0} → ℕ → (X → X) → List X → List X
at_place i change [] = []
at_place zero change (x ∷ xs) = change x ∷ xs
at_place (suc i) change (x ∷ xs) = x ∷ at_place i change xs

-- the core of a device has no fewer connections once it met an event
abbrev pub HasNoFewer : ℕ → Event → List QmiCore → Type 0
HasNoFewer d event cores = (core : QmiCore) → slice_get cores d ≡ Some core → length core.state.table.present ≤ length (met event core).state.table.present
