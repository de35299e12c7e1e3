-- The rig for MBIM.
use Rattle.std.specs.Prelude.{ℕ, ◌==◌, false, if◌then◌else◌, List, [], ◌∷◌}
use Rattle.std.specs.List.{range_with_len}
use Rattle.modem_profile.specs.Profile.{default_profile}
use Rattle.mbim_requests.specs.declared.MbimRequest.{MbimRequest}
use Rattle.mbim_requests.specs.declared.MbimRequest.TheVariants.{ProxyConfiguration, QueryRadioState, QueryHomeProvider, QueryRegistrationState, QuerySignalState}
use Rattle.mbim_frame.specs.Frame.{size_of}
use Rattle.mbim_frame.specs.Writing.{open_request}
use Rattle.mbim_session.specs.Requests.{command_message, longest_sent}
use Rattle.mbim_proxy.specs.Setup.{Setup, mbim_setup}
use Rattle.mbim_proxy.specs.Proxy.{proxy_of}
use Rattle.proxy_history.specs.Events.{Event}
use Rattle.sim_modem.specs.Sim.{answers}
use Rattle.sim_mbim.specs.Answers.{machine}
use Rattle.rig_runs.specs.Stage.{Cast}
use Rattle.rig_runs.specs.Rig as rig
use Rattle.rig_runs.specs.Rig.{Script, device, time_limit}

abbrev pub setup : Setup
setup = mbim_setup device time_limit false

-- so many clients, named from 1 on, and the simulated modem that says nothing of its own
abbrev pub cast : (clients : ℕ) → Cast
cast clients = record { clients = range_with_len 1 clients; proxy = proxy_of setup; modem = answers (machine default_profile); size = size_of }

-- ---- what a client says ----

-- it names the device, and opens it for messages of 4,096 bytes at most
abbrev pub opening : List (List ℕ)
opening = command_message (ProxyConfiguration device) 1 ∷ open_request 2 longest_sent ∷ []

-- queries of Basic Connect, CIDs 3, 6, 9 and 11
abbrev pub asks_for : (choice : ℕ) → MbimRequest
asks_for choice =
    if choice == 0 then QueryRadioState
    else if choice == 1 then QueryHomeProvider
    else if choice == 2 then QueryRegistrationState
    else QuerySignalState

abbrev pub script : Script
script = record { opening = λ conn. opening; request = λ conn choice number. command_message (asks_for choice) number; first = 3 }

-- ---- what the proxy meets ----

abbrev pub mbim_rig : (clients turns number : ℕ) → List Event
mbim_rig clients turns number = rig.rig (cast clients) script turns number
