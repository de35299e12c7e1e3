-- What a simulated modem answers to the messages of service 3 (NAS): the network that it is registered in.
use Rattle.std.specs.Prelude.{ℕ, pos, ◌==◌, List, [], ◌∷◌, Option, Some, None, if◌then◌else◌}
use Rattle.qmi_values.specs.Value.{Value, number, integer, text}
use Rattle.qmi_services.specs.Inputs.{sequence_of}
use Rattle.qmi_services.specs.Table as table
use Rattle.qmi_services.specs.Table.{Row}
use Rattle.modem_profile.specs.Profile.{Profile}
use Rattle.sim_qmi.specs.declared.nas.NasRequest.{NasRequest}
use Rattle.sim_qmi.specs.declared.nas.NasRequest.TheVariants.{GetSignalStrength, NetworkScan, GetServingSystem, GetHomeNetwork, GetDrx}
use Rattle.sim_qmi.specs.State.{State}
use Rattle.sim_qmi.specs.Step.{Step, answered}
use Rattle.sim_qmi.specs.Values.{list, lte}

-- ---- what a request asks ----

-- the request with this message id
abbrev pub nas_request : (id : ℕ) → Option NasRequest
nas_request id =
    if id == table.get_signal_strength.id then Some GetSignalStrength
    else if id == table.network_scan.id then Some NetworkScan
    else if id == table.get_serving_system.id then Some GetServingSystem
    else if id == table.get_home_network.id then Some GetHomeNetwork
    else if id == table.get_drx.id then Some GetDrx
    else None

-- its line of the table
abbrev pub nas_row : NasRequest → Row
nas_row GetSignalStrength = table.get_signal_strength
nas_row NetworkScan = table.network_scan
nas_row GetServingSystem = table.get_serving_system
nas_row GetHomeNetwork = table.get_home_network
nas_row GetDrx = table.get_drx

-- ---- what is answered ----

abbrev pub signal : Profile → Value
signal profile = sequence_of (integer profile.signal ∷ integer (pos lte) ∷ [])

-- the status of a network that serves
-- Source: the enum QmiNasNetworkStatus in libqmi's src/libqmi-glib/qmi-enums-nas.h.
abbrev pub current_serving : ℕ
current_serving = 1

-- the one network
abbrev pub networks : Profile → Value
networks profile = list (sequence_of (number profile.mcc ∷ number profile.mnc ∷ number current_serving ∷ text profile.operator ∷ []) ∷ [])

abbrev pub plmn : Profile → Value
plmn profile = sequence_of (number profile.mcc ∷ number profile.mnc ∷ text profile.operator ∷ [])

-- Source of these: the enums QmiNasRegistrationState, QmiNasAttachState and QmiNasNetworkType there.
abbrev pub not_registered : ℕ
not_registered = 0

abbrev pub registered : ℕ
registered = 1

abbrev pub attached : ℕ
attached = 1

-- a network of 3GPP
abbrev pub network_3gpp : ℕ
network_3gpp = 2

-- registered in the operating mode 0, which is online, and else not
abbrev pub registration : (mode : ℕ) → ℕ
registration mode = if mode == 0 then registered else not_registered

-- how it is registered, attached to both domains of a network of 3GPP, with LTE alone
abbrev pub system : (mode : ℕ) → Value
system mode = sequence_of (number (registration mode) ∷ number attached ∷ number attached ∷ number network_3gpp ∷ list (integer (pos lte) ∷ []) ∷ [])

-- the system, nothing of roaming, and the network
abbrev pub serving_system : Profile → (mode : ℕ) → List (Option Value)
serving_system profile mode = Some (system mode) ∷ None ∷ Some (plmn profile) ∷ []

-- how often a modem that sleeps listens: every 32 frames
-- Source: the enum QmiNasDrx there.
abbrev pub drx : ℕ
drx = 6

abbrev pub nas_step : Profile → State → NasRequest → Step
nas_step profile state GetSignalStrength = answered state (Some (signal profile) ∷ [])
nas_step profile state NetworkScan = answered state (Some (networks profile) ∷ [])
nas_step profile state GetServingSystem = answered state (serving_system profile state.mode)
nas_step profile state GetHomeNetwork = answered state (Some (plmn profile) ∷ [])
nas_step profile state GetDrx = answered state (Some (number drx) ∷ [])
