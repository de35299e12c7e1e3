-- The paths of sockets where the words name none.
use Rattle.std.specs.Prelude.{ℕ, List, codes}
use Rattle.kit_bytes.specs.declared.Kind.{Kind}
use Rattle.kit_bytes.specs.declared.Kind.TheVariants.{Qmi, Mbim}

-- the socket on which the proxy for a kind of modem listens
abbrev pub proxy_socket : Kind → List ℕ
proxy_socket Qmi = codes "/tmp/qmi-proxy.sock"
proxy_socket Mbim = codes "/tmp/mbim-proxy.sock"

-- the socket on which a simulated modem listens
abbrev pub simulator_socket : List ℕ
simulator_socket = codes "/tmp/modem-sim.sock"

-- the socket over which a device node is reached
abbrev pub bridge_socket : List ℕ
bridge_socket = codes "/tmp/modemkit.bridge"
