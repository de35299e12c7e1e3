-- What a simulated modem answers to the messages of service 0 (CTL), which gives client ids of the services.
use Rattle.std.specs.Prelude.{ℕ, ◌==◌, [], ◌∷◌, map, Option, Some, None, option_map, option_and_then, if◌then◌else◌}
use Rattle.qmi_values.specs.Value.{Value, number}
use Rattle.qmi_services.specs.Inputs.{sequence_of}
use Rattle.qmi_services.specs.Table as table
use Rattle.qmi_services.specs.Table.{Row}
use Rattle.sim_qmi.specs.declared.ctl.CtlRequest.{CtlRequest}
use Rattle.sim_qmi.specs.declared.ctl.CtlRequest.TheVariants.{GetVersionInfo, Allocate, Release, Sync, ProxyOpen}
use Rattle.sim_qmi.specs.Errors.{client_ids_exhausted, invalid_client_id}
use Rattle.sim_qmi.specs.State.{State, is_given, free_id, with_client, without_client}
use Rattle.sim_qmi.specs.Step.{Step, success, refused, answered}
use Rattle.sim_qmi.specs.Inputs.{byte_in, first_in, second_in}
use Rattle.sim_qmi.specs.Values.{list}

-- ---- what a request asks ----

abbrev pub release_in : Value → Option CtlRequest
release_in value = option_and_then (λ service. option_map (Release service) (option_and_then byte_in (second_in value))) (option_and_then byte_in (first_in value))

-- the request with this message id and this value of TLV 0x01; None where the message has this input, and it is missing or unreadable
abbrev pub ctl_request : (id : ℕ) → (input : Option Value) → Option CtlRequest
ctl_request id input =
    if id == table.get_version_info.id then Some GetVersionInfo
    else if id == table.allocate.id then option_map Allocate (option_and_then byte_in input)
    else if id == table.release.id then option_and_then release_in input
    else if id == table.sync.id then Some Sync
    else if id == table.proxy_open.id then option_map (λ path. ProxyOpen) input
    else None

-- its line of the table
abbrev pub ctl_row : CtlRequest → Row
ctl_row GetVersionInfo = table.get_version_info
ctl_row (Allocate service) = table.allocate
ctl_row (Release service id) = table.release
ctl_row Sync = table.sync
ctl_row ProxyOpen = table.proxy_open

-- ---- what is answered ----

-- a service in version 1.0
abbrev pub version : ℕ → Value
version service = sequence_of (number service ∷ number 1 ∷ number 0 ∷ [])

abbrev pub versions : Value
versions = list (map version (table.ctl ∷ table.wds ∷ table.dms ∷ table.nas ∷ table.wms ∷ []))

abbrev pub client_id : (service id : ℕ) → Value
client_id service id = sequence_of (number service ∷ number id ∷ [])

-- this id is given, if there is one
abbrev pub allocates : State → (service : ℕ) → Option ℕ → Step
allocates state service None = refused state client_ids_exhausted
allocates state service (Some id) = record { answer = success (Some (client_id service id) ∷ []); state = with_client state service id }

abbrev pub releases : State → (service id : ℕ) → Step
releases state service id =
    if is_given state.clients service id
    then record { answer = success (Some (client_id service id) ∷ []); state = without_client state service id }
    else refused state invalid_client_id

abbrev pub ctl_step : State → CtlRequest → Step
ctl_step state GetVersionInfo = answered state (Some versions ∷ [])
ctl_step state (Allocate service) = allocates state service (free_id state.clients service)
ctl_step state (Release service id) = releases state service id
ctl_step state Sync = answered state []
ctl_step state ProxyOpen = answered state []
