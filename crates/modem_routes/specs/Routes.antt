-- The routes to a modem.
use Rattle.std.specs.Prelude.{ℕ, Bool, true, false, nat_eq, List, [], ◌∷◌, ◌++◌, codes, map, string_bytes, if◌then◌else◌}
use Rattle.std.specs.List.{starts_with}
use Rattle.kit_bytes.specs.declared.Kind.{Kind}
use Rattle.kit_bytes.specs.declared.Kind.TheVariants as kind
use Rattle.link_io.specs.Target.{Address, AtSocket, AtBridge, address_of}
use Rattle.modem_routes.specs.declared.route.Pumps.{Pumps}
use Rattle.modem_routes.specs.declared.route.Device.{Device}
use Rattle.modem_routes.specs.declared.route.Device.TheVariants as device
use Rattle.modem_routes.specs.declared.route.Route.{Route}
use Rattle.modem_routes.specs.declared.route.Route.TheVariants as route

-- the words with which a node's pumps are started
pub record PumpWords : Type 0 where
  pub reads : List (List ℕ)
  pub writes : List (List ℕ)

-- where a device is: at a socket, or behind pumps that meet at a bridge
pub data Place : Type 0 where
  AtOnce : (address : Address) → Place
  BehindPumps : (address : Address) (pumps : PumpWords) → Place

-- how a modem is reached: where it is, or at a proxy's socket, where a proxy is started with these words if none is there
pub data Path : Type 0 where
  Direct : (place : Place) → Path
  ByProxy : (address : Address) (words : List (List ℕ)) → Path

-- ---- by the words of a command; paths are in bytes ----

-- the path of a device node
unfoldable pub is_node : List ℕ → Bool
is_node path = starts_with nat_eq path (codes "/dev/")

unfoldable pub pump_words : (side node bridge : List ℕ) → List (List ℕ)
pump_words side node bridge = codes "pump" ∷ side ∷ node ∷ bridge ∷ []

abbrev pub pumps_of : (node bridge : List ℕ) → PumpWords
pumps_of node bridge = record { reads = pump_words (codes "read") node bridge; writes = pump_words (codes "write") node bridge }

-- pumps that tell why their node failed
abbrev pub telling : PumpWords → PumpWords
telling pumps = record { reads = pumps.reads ++ codes "-v" ∷ []; writes = pumps.writes ++ codes "-v" ∷ [] }

unfoldable pub place_of : (device bridge : List ℕ) → Place
place_of device bridge = if is_node device then BehindPumps (AtBridge bridge) (pumps_of device bridge) else AtOnce (AtSocket device)

-- the same place, with pumps that tell why their node failed where that is wanted
abbrev pub place_telling : (verbose : Bool) → Place → Place
place_telling false place = place
place_telling true (AtOnce address) = AtOnce address
place_telling true (BehindPumps address pumps) = BehindPumps address (telling pumps)

abbrev pub proxy_name : Kind → List ℕ
proxy_name kind.Qmi = codes "qmi-proxy"
proxy_name kind.Mbim = codes "mbim-proxy"

unfoldable pub proxy_words : Kind → (device socket bridge : List ℕ) → List (List ℕ)
proxy_words kind device socket bridge = proxy_name kind ∷ (codes "--device=" ++ device) ∷ (codes "--socket=" ++ socket) ∷ (codes "--bridge=" ++ bridge) ∷ []

-- ---- as the code has them ----

abbrev pub words_in : Pumps → PumpWords
words_in pumps = record { reads = map string_bytes pumps.reads.items; writes = map string_bytes pumps.writes.items }

abbrev pub place_in : Device → Place
place_in (device.AtOnce target) = AtOnce (address_of target)
place_in (device.BehindPumps target pumps) = BehindPumps (address_of target) (words_in pumps)

abbrev pub path_in : Route → Path
path_in (route.Direct device) = Direct (place_in device)
path_in (route.ByProxy target words) = ByProxy (address_of target) (map string_bytes words.items)
