-- The rig for QMI.
use Rattle.std.specs.Prelude.{ℕ, ◌==◌, false, if◌then◌else◌, List, [], ◌∷◌, None}
use Rattle.std.specs.List.{range_with_len}
use Rattle.modem_profile.specs.Profile.{default_profile}
use Rattle.qmi_requests.specs.declared.QmiRequest.{QmiRequest}
use Rattle.qmi_requests.specs.declared.QmiRequest.TheVariants.{ProxyOpen, Allocate, NasGetSignalStrength, NasNetworkScan, NasGetServingSystem, NasGetHomeNetwork}
use Rattle.qmux_frame.specs.Frame.{size_of}
use Rattle.qmi_services.specs.Table.{nas}
use Rattle.device_core.specs.Requests.{message_of}
use Rattle.qmi_proxy.specs.Setup.{Setup}
use Rattle.qmi_proxy.specs.Proxy.{proxy_of}
use Rattle.proxy_history.specs.Events.{Event}
use Rattle.sim_modem.specs.Sim.{answers}
use Rattle.sim_qmi.specs.Modem.{machine}
use Rattle.rig_runs.specs.Stage.{Cast}
use Rattle.rig_runs.specs.Rig as rig
use Rattle.rig_runs.specs.Rig.{Script}
pub use Rattle.rig_runs.specs.Rig.{device, time_limit}

abbrev pub setup : Setup
setup = record { device = device; time_limit = time_limit; starts_away = false; release = None }

-- so many clients, named from 1 on, and the simulated modem that says nothing of its own
abbrev pub cast : (clients : ℕ) → Cast
cast clients = record { clients = range_with_len 1 clients; proxy = proxy_of setup; modem = answers (machine default_profile); size = size_of }

-- ---- what a client says ----

-- a request with the client's number
abbrev pub says : QmiRequest → (cid number : ℕ) → List ℕ
says body cid number = message_of (record { body = body; cid = cid; number = number })

-- it opens the device by Proxy Open, and gets a client id of NAS
abbrev pub opening : List (List ℕ)
opening = says (ProxyOpen device) 0 1 ∷ says (Allocate nas) 0 2 ∷ []

-- the modem gives its client ids one after the other, so each client has that of its own number
abbrev pub asks_for : (choice : ℕ) → QmiRequest
asks_for choice =
    if choice == 0 then NasGetSignalStrength
    else if choice == 1 then NasNetworkScan
    else if choice == 2 then NasGetServingSystem
    else NasGetHomeNetwork

abbrev pub script : Script
script = record { opening = λ conn. opening; request = λ conn choice number. says (asks_for choice) conn number; first = 1 }

-- ---- what the proxy meets ----

abbrev pub qmi_rig : (clients turns number : ℕ) → List Event
qmi_rig clients turns number = rig.rig (cast clients) script turns number
