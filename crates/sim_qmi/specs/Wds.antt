-- What a simulated modem answers to the messages of service 1 (WDS), which connects to a packet data network.
use Rattle.std.specs.Prelude.{ℕ, Bool, true, false, ◌&&◌, ◌==◌, List, [], ◌∷◌, Option, Some, None, option_map, option_and_then, if◌then◌else◌}
use Rattle.qmi_values.specs.Value.{Value, number}
use Rattle.qmi_services.specs.Inputs.{sequence_of}
use Rattle.qmi_services.specs.Table as table
use Rattle.qmi_services.specs.Table.{Row}
use Rattle.sim_qmi.specs.declared.wds.WdsRequest.{WdsRequest}
use Rattle.sim_qmi.specs.declared.wds.WdsRequest.TheVariants.{StartNetwork, StopNetwork, GetPacketServiceStatus, GetChannelRates, GetCurrentSettings}
use Rattle.sim_qmi.specs.Errors.{invalid_client_id}
use Rattle.sim_qmi.specs.State.{State}
use Rattle.sim_qmi.specs.Step.{Step, success, refused, answered}
use Rattle.sim_qmi.specs.Inputs.{word_in}
use Rattle.sim_qmi.specs.Values.{address, number_after, max_tx, max_rx}

-- ---- what a request asks ----

-- the request with this message id and this value of TLV 0x01; None where the message has this input, and it is missing or unreadable
abbrev pub wds_request : (id : ℕ) → (input : Option Value) → Option WdsRequest
wds_request id input =
    if id == table.start_network.id then Some StartNetwork
    else if id == table.stop_network.id then option_map StopNetwork (option_and_then word_in input)
    else if id == table.get_packet_service_status.id then Some GetPacketServiceStatus
    else if id == table.get_channel_rates.id then Some GetChannelRates
    else if id == table.get_current_settings.id then Some GetCurrentSettings
    else None

-- its line of the table
abbrev pub wds_row : WdsRequest → Row
wds_row StartNetwork = table.start_network
wds_row (StopNetwork handle) = table.stop_network
wds_row GetPacketServiceStatus = table.get_packet_service_status
wds_row GetChannelRates = table.get_channel_rates
wds_row GetCurrentSettings = table.get_current_settings

-- ---- what is answered ----

-- the packet data handle after this one
abbrev pub handle_after : ℕ → ℕ
handle_after handle = number_after 4294967295 handle

abbrev pub starts : State → (handle : ℕ) → Step
starts state handle = record { answer = success (Some (number handle) ∷ []); state = record state { handle = handle; connected = true } }

-- the handle that was given last, and no other, stops the network
abbrev pub stops : State → (handle : ℕ) → Step
stops state handle =
    if state.connected && handle == state.handle
    then record { answer = success []; state = record state { connected = false } }
    else refused state invalid_client_id

-- connected or disconnected
-- Source: the enum QmiWdsConnectionStatus in libqmi's src/libqmi-glib/qmi-enums-wds.h.
abbrev pub connection : Bool → ℕ
connection connected = if connected then 2 else 1

-- the rates, and the greatest ones
abbrev pub rates : Value
rates = sequence_of (max_tx ∷ max_rx ∷ max_tx ∷ max_rx ∷ [])

-- the primary name server and no secondary one, the address, the gateway, the mask, and the MTU
abbrev pub settings : List (Option Value)
settings = Some (address 10 0 0 1) ∷ None ∷ Some (address 10 0 0 2) ∷ Some (address 10 0 0 1) ∷ Some (address 255 255 255 0) ∷ Some (number 1500) ∷ []

abbrev pub wds_step : State → WdsRequest → Step
wds_step state StartNetwork = starts state (handle_after state.handle)
wds_step state (StopNetwork handle) = stops state handle
wds_step state GetPacketServiceStatus = answered state (Some (number (connection state.connected)) ∷ [])
wds_step state GetChannelRates = answered state (Some rates ∷ [])
wds_step state GetCurrentSettings = answered state settings
