-- What a simulated modem answers to the messages of service 2 (DMS): what device it is, and its operating mode.
-- The texts of a profile are ASCII, so their characters are their bytes.
use Rattle.std.specs.Prelude.{ℕ, ◌==◌, [], ◌∷◌, Option, Some, None, option_map, option_and_then, if◌then◌else◌}
use Rattle.qmi_values.specs.Value.{Value, number, text}
use Rattle.qmi_services.specs.Inputs.{sequence_of}
use Rattle.qmi_services.specs.Table as table
use Rattle.qmi_services.specs.Table.{Row}
use Rattle.modem_profile.specs.Profile.{Profile}
use Rattle.sim_qmi.specs.declared.dms.DmsRequest.{DmsRequest}
use Rattle.sim_qmi.specs.declared.dms.DmsRequest.TheVariants.{GetCapabilities, GetManufacturer, GetModel, GetRevision, GetMsisdn, GetIds, GetOperatingMode, SetOperatingMode}
use Rattle.sim_qmi.specs.State.{State}
use Rattle.sim_qmi.specs.Step.{Step, success, answered}
use Rattle.sim_qmi.specs.Inputs.{byte_in}
use Rattle.sim_qmi.specs.Values.{list, lte, max_tx, max_rx}

-- ---- what a request asks ----

-- the request with this message id and this value of TLV 0x01; None where the message has this input, and it is missing or unreadable
abbrev pub dms_request : (id : ℕ) → (input : Option Value) → Option DmsRequest
dms_request id input =
    if id == table.get_capabilities.id then Some GetCapabilities
    else if id == table.get_manufacturer.id then Some GetManufacturer
    else if id == table.get_model.id then Some GetModel
    else if id == table.get_revision.id then Some GetRevision
    else if id == table.get_msisdn.id then Some GetMsisdn
    else if id == table.get_ids.id then Some GetIds
    else if id == table.get_operating_mode.id then Some GetOperatingMode
    else if id == table.set_operating_mode.id then option_map SetOperatingMode (option_and_then byte_in input)
    else None

-- its line of the table
abbrev pub dms_row : DmsRequest → Row
dms_row GetCapabilities = table.get_capabilities
dms_row GetManufacturer = table.get_manufacturer
dms_row GetModel = table.get_model
dms_row GetRevision = table.get_revision
dms_row GetMsisdn = table.get_msisdn
dms_row GetIds = table.get_ids
dms_row GetOperatingMode = table.get_operating_mode
dms_row (SetOperatingMode mode) = table.set_operating_mode

-- ---- what is answered ----

-- a data service in the circuit-switched domain, and a SIM
-- Source: the enums QmiDmsDataServiceCapability and QmiDmsSimCapability in libqmi's src/libqmi-glib/qmi-enums-dms.h.
abbrev pub data_service_cs : ℕ
data_service_cs = 1

abbrev pub sim_supported : ℕ
sim_supported = 2

-- the rates, the data service, the SIM, and LTE alone
abbrev pub capabilities : Value
capabilities = sequence_of (max_tx ∷ max_rx ∷ number data_service_cs ∷ number sim_supported ∷ list (number lte ∷ []) ∷ [])

abbrev pub dms_step : Profile → State → DmsRequest → Step
dms_step profile state GetCapabilities = answered state (Some capabilities ∷ [])
dms_step profile state GetManufacturer = answered state (Some (text profile.manufacturer) ∷ [])
dms_step profile state GetModel = answered state (Some (text profile.model) ∷ [])
dms_step profile state GetRevision = answered state (Some (text profile.revision) ∷ [])
dms_step profile state GetMsisdn = answered state (Some (text profile.msisdn) ∷ [])
-- an IMEI, and neither an ESN nor an MEID
dms_step profile state GetIds = answered state (None ∷ Some (text profile.imei) ∷ None ∷ [])
dms_step profile state GetOperatingMode = answered state (Some (number state.mode) ∷ [])
dms_step profile state (SetOperatingMode mode) = record { answer = success []; state = record state { mode = mode } }
