-- Where several devices are, and what starts the pumps of those that are nodes. Paths are in bytes.
use Rattle.std.specs.Prelude.{◌≡◌, ℕ, ◌+◌, List, [], ◌∷◌, ◌++◌, map}
use Rattle.link_io.specs.Target.{Address, address_of}
use Rattle.modem_routes.specs.Routes.{Place, AtOnce, BehindPumps, PumpWords, place_of, words_in}
use Rattle.many_runs.specs.declared.devices.Devices.{Devices}

-- `.` and the device's number, a digit
unfoldable pub bridge_end : ℕ → List ℕ
bridge_end device = 46 ∷ (48 + device) ∷ []

-- the bridge of a device
abbrev pub bridge_at : (bridge : List ℕ) → ℕ → List ℕ
bridge_at bridge device = bridge ++ bridge_end device

-- those of these paths, whose first is the device of this number
abbrev pub places_from : ℕ → (paths : List (List ℕ)) → (bridge : List ℕ) → List Place
places_from device [] bridge = []
places_from device (path ∷ paths) bridge = place_of path (bridge_at bridge device) ∷ places_from (device + 1) paths bridge

abbrev pub places_of : (paths : List (List ℕ)) → (bridge : List ℕ) → List Place
places_of paths bridge = places_from 0 paths bridge

-- what is opened of each
abbrev pub address_in : Place → Address
address_in (AtOnce address) = address
address_in (BehindPumps address pumps) = address

-- those of the nodes
abbrev pub pumps_if : Place → List PumpWords
pumps_if (AtOnce address) = []
pumps_if (BehindPumps address pumps) = pumps ∷ []

abbrev pub pumps_in : List Place → List PumpWords
pumps_in [] = []
pumps_in (place ∷ places) = pumps_if place ++ pumps_in places

-- ---- as the code has them ----

abbrev pub addresses_in : Devices → List Address
addresses_in devices = map address_of devices.targets.items

abbrev pub pumps_among : Devices → List PumpWords
pumps_among devices = map words_in devices.pumps.items

pub record StandFor (places : List Place) (devices : Devices) : Type 0 where
  pub addresses : addresses_in devices ≡ map address_in places
  pub pumps : pumps_among devices ≡ pumps_in places

-- those with this one behind them
pub record HaveAlso (place : Place) (old new : Devices) : Type 0 where
  pub addresses : addresses_in new ≡ addresses_in old ++ address_in place ∷ []
  pub pumps : pumps_among new ≡ pumps_among old ++ pumps_if place
