-- The modems of a hub, by their devices.
use Rattle.std.specs.Prelude.{◌≡◌, ◌≢◌, ℕ, ◌+◌, ◌%◌, ◌<◌, ◌≤◌, List, Option, option_and_then, slice_get}
use Rattle.hub_io.specs.Clients.{fault_of}
use Rattle.mio_hub.specs.declared.modem.Modem.{Modem}
use Rattle.mio_hub.specs.declared.routes.OfModem.{OfModem}
use Rattle.mio_hub.specs.declared.routes.OfModem.TheVariants.{Piece}
use Rattle.mio_hub.specs.declared.routes.Route.{Route}

-- the modem of a device, where there is a line to it
abbrev pub modem_of : List Route → ℕ → Option Modem
modem_of routes device = option_and_then (λ route. route.modem) (slice_get routes device)

-- the lines to all other modems are as they were
abbrev pub OthersStay : ℕ → List Route → List Route → Type 0
OthersStay device old new = (other : ℕ) → other ≢ device → modem_of new other ≡ modem_of old other

-- the count of a device's faults, in a table of counts by names: each of 128 devices has a name of its own there
abbrev pub modem_fault_of : List ℕ → ℕ → ℕ
modem_fault_of counts device = fault_of counts (device % 128 + 1)

-- bytes that came of a modem are some, and fit a buffer of this length
abbrev pub OfModemFits : OfModem → ℕ → Type 0
OfModemFits (Piece count) room = (0 < count) × (count ≤ room)
OfModemFits _ room = Unit {0}
