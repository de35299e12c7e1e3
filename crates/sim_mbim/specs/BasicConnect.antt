-- What the modem answers to the commands of the service Basic Connect.
-- Source: the USB-IF MBIM specification 1.0, section 10.5, for what the numbers mean.
use Rattle.std.specs.Prelude.{ℕ, ◌+◌, ◌/◌, ◌%◌, ◌==◌, nat_lt, Bool, true, false, not, List, [], ◌∷◌, ◌++◌, length, map, filter, replicate, Option, Some, None, option_and_then, if◌then◌else◌}
use Rattle.std.specs.List.{list_any}
use Rattle.kit_bytes.specs.Subscriptions.{Pair, normal_form, by_service}
use Rattle.mbim_fields.specs.Value.{Value, number, uuid_of, octets, text_of, absent}
use Rattle.mbim_services.specs.SubscribeLists.{list_of_buffer, list_values}
use Rattle.mbim_services.specs.Table as table
use Rattle.mbim_services.specs.Table.{service_cids}
use Rattle.mbim_services.specs.Requests.{no_text, no_elements}
use Rattle.modem_profile.specs.Profile.{Profile}
use Rattle.subscriptions.specs.declared.pair_list.TheConstants.{LONGEST_LIST}
use Rattle.sim_mbim.specs.Values as values
use Rattle.sim_mbim.specs.Values.{number_at, zeros, list, structure}
use Rattle.sim_mbim.specs.Modem.{Modem, Outcome, becomes}

-- ---- what it is ----

abbrev pub device_caps : Profile → List Value
device_caps p = zeros 8 ++ no_text ∷ text_of p.imei ∷ text_of p.revision ∷ text_of p.model ∷ []

-- MBIM_SUBSCRIBER_READY_STATE: MBIMSubscriberReadyStateInitialized
abbrev pub initialized : Value
initialized = number 1

abbrev pub subscriber_ready : Profile → List Value
subscriber_ready p = initialized ∷ no_text ∷ no_text ∷ values.zero ∷ number 1 ∷ list (text_of p.msisdn ∷ []) ∷ []

abbrev pub service_with : (service cids : List ℕ) → Value
service_with service cids = structure (uuid_of service ∷ values.zero ∷ values.zero ∷ number (length cids) ∷ list (map number cids) ∷ [])

abbrev pub device_service : (service : List ℕ) → Value
device_service service = service_with service (service_cids service)

abbrev pub device_services : List Value
device_services = number 4 ∷ values.zero ∷ list (map device_service (table.basic_connect ∷ table.sms ∷ table.ussd ∷ table.phonebook ∷ [])) ∷ []

-- ---- the radio ----

-- MBIM_RADIO_SWITCH_STATE: MBIMRadioOff and MBIMRadioOn
abbrev pub off : ℕ
off = 0

abbrev pub on : ℕ
on = 1

-- the switch of the hardware, which is always on, and that of the software
abbrev pub radio_state : Modem → List Value
radio_state m = number on ∷ number (if m.radio then on else off) ∷ []

abbrev pub with_radio : Bool → Modem → Modem
with_radio radio m = record m { radio = radio }

abbrev pub switch_radio : Bool → Modem → Option Outcome
switch_radio radio m = becomes (with_radio radio m) (radio_state (with_radio radio m))

abbrev pub set_radio : (state : ℕ) → Modem → Option Outcome
set_radio state m = if state == on then switch_radio true m else if state == off then switch_radio false m else None

-- ---- the network ----

-- the decimal digit of a number that counts these units
abbrev pub digit : (unit n : ℕ) → ℕ
digit unit n = 48 + n / unit % 10

abbrev pub two_digits : ℕ → List ℕ
two_digits n = digit 10 n ∷ digit 1 n ∷ []

abbrev pub three_digits : ℕ → List ℕ
three_digits n = digit 100 n ∷ two_digits n

-- the network's code has two digits, or three where two are too few
abbrev pub network_digits : ℕ → List ℕ
network_digits n = if nat_lt 99 n then three_digits n else two_digits n

-- the country's code, and the network's
abbrev pub provider_id : Profile → List ℕ
provider_id p = three_digits p.mcc ++ network_digits p.mnc

-- how strong every signal is
abbrev pub rssi : Value
rssi = number 20

abbrev pub provider : Profile → List Value
provider p = text_of (provider_id p) ∷ values.zero ∷ text_of p.operator ∷ values.zero ∷ rssi ∷ values.zero ∷ []

-- it is the only one
abbrev pub providers : Profile → List Value
providers p = number 1 ∷ list (structure (provider p) ∷ []) ∷ []

-- MBIM_VISIBLE_PROVIDERS_ACTION: MBIMVisibleProvidersActionFullScan
abbrev pub full_scan : ℕ
full_scan = 0

abbrev pub visible_providers : (action : ℕ) → Modem → Option (List Value)
visible_providers action m = if action == full_scan then Some (providers m.profile) else None

-- MBIM_REGISTER_STATE: MBIMRegisterStateHome, and MBIMRegisterStateDeregistered while the radio is off
abbrev pub registration : Modem → ℕ
registration m = if m.radio then 3 else 1

abbrev pub register_state : Modem → List Value
register_state m = values.zero ∷ number (registration m) ∷ zeros 3 ++ no_text ∷ no_text ∷ no_text ∷ values.zero ∷ []

abbrev pub signal_state : List Value
signal_state = rssi ∷ zeros 4

-- ---- the packet service ----

-- MBIM_PACKET_SERVICE_STATE: MBIMPacketServiceStateAttached and MBIMPacketServiceStateDetached
abbrev pub attachment : Modem → ℕ
attachment m = if m.attached then 2 else 4

abbrev pub packet_service : Modem → List Value
packet_service m = values.zero ∷ number (attachment m) ∷ zeros 3

-- MBIM_PACKET_SERVICE_ACTION: MBIMPacketServiceActionAttach and MBIMPacketServiceActionDetach
abbrev pub attach : ℕ
attach = 0

abbrev pub detach : ℕ
detach = 1

abbrev pub with_packet_service : Bool → Modem → Modem
with_packet_service attached m = record m { attached = attached }

abbrev pub switch_packet_service : Bool → Modem → Option Outcome
switch_packet_service attached m = becomes (with_packet_service attached m) (packet_service (with_packet_service attached m))

abbrev pub set_packet_service : (action : ℕ) → Modem → Option Outcome
set_packet_service action m =
    if action == attach then switch_packet_service true m
    else if action == detach then switch_packet_service false m
    else None

-- ---- sessions ----

abbrev pub is_connected : (session : ℕ) → Modem → Bool
is_connected session m = list_any (λ connected. connected == session) m.sessions

-- MBIM_ACTIVATION_STATE: MBIMActivationStateActivated and MBIMActivationStateDeactivated
abbrev pub activation : (session : ℕ) → Modem → ℕ
activation session m = if is_connected session m then 1 else 3

abbrev pub connection : (session : ℕ) → Modem → List Value
connection session m = number session ∷ number (activation session m) ∷ values.zero ∷ values.zero ∷ uuid_of (replicate 16 0) ∷ values.zero ∷ []

abbrev pub others : (session : ℕ) → List ℕ → List ℕ
others session sessions = filter (λ connected. not (connected == session)) sessions

abbrev pub disconnected : (session : ℕ) → Modem → Modem
disconnected session m = record m { sessions = others session m.sessions }

abbrev pub connected : (session : ℕ) → Modem → Modem
connected session m = record m { sessions = others session m.sessions ++ session ∷ [] }

-- MBIM_ACTIVATION_COMMAND: MBIMActivationCommandDeactivate and MBIMActivationCommandActivate
abbrev pub deactivate : ℕ
deactivate = 0

abbrev pub activate : ℕ
activate = 1

abbrev pub activated : (session : ℕ) → Modem → Option Outcome
activated session m = becomes (connected session m) (connection session (connected session m))

abbrev pub deactivated : (session : ℕ) → Modem → Option Outcome
deactivated session m = becomes (disconnected session m) (connection session (disconnected session m))

abbrev pub connect : (session command : ℕ) → Modem → Option Outcome
connect session command m =
    if command == activate then activated session m
    else if command == deactivate then deactivated session m
    else None

-- 10.0.0.2 in a network whose addresses have the first 24 bits in common
abbrev pub address : Value
address = structure (number 24 ∷ octets (10 ∷ 0 ∷ 0 ∷ 2 ∷ []) ∷ [])

-- 10.0.0.1, which is the gateway and the server of names
abbrev pub gateway : Value
gateway = octets (10 ∷ 0 ∷ 0 ∷ 1 ∷ [])

abbrev pub addresses : Value
addresses = list (address ∷ [])

abbrev pub servers : Value
servers = list (gateway ∷ [])

abbrev pub ip_configuration : (session : ℕ) → List Value
ip_configuration session =
    number session ∷ values.zero ∷ values.zero ∷ number 1 ∷ addresses ∷ values.zero ∷ no_elements ∷ gateway ∷ absent
    ∷ number 1 ∷ servers ∷ values.zero ∷ no_elements ∷ number 1500 ∷ values.zero ∷ []

-- ---- what the host listens to ----

-- the list is told in normal form
abbrev pub subscribe : List Pair → Modem → Option Outcome
subscribe pairs m = becomes (record m { subscribed = normal_form pairs }) (list_values (by_service (normal_form pairs)))

-- no more pairs than a proxy sends, each counted as often as it is spelled
abbrev pub if_few : List Pair → Option (List Pair)
if_few pairs = if nat_lt LONGEST_LIST (length pairs) then None else Some pairs

-- the pairs that a buffer spells, if it spells a list that the modem takes
abbrev pub list_taken : (buffer : List ℕ) → Option (List Pair)
list_taken buffer = option_and_then if_few (list_of_buffer buffer)

-- a buffer that spells no such list has no meaning
abbrev pub set_list : (buffer : List ℕ) → Modem → Option Outcome
set_list buffer m = option_and_then (λ pairs. subscribe pairs m) (list_taken buffer)

-- ---- queries, and sets but that of the list ----

abbrev pub answer_to_query : (cid : ℕ) → List Value → Modem → Option (List Value)
answer_to_query cid asked m =
    if cid == table.device_caps.cid then Some (device_caps m.profile)
    else if cid == table.subscriber_ready.cid then Some (subscriber_ready m.profile)
    else if cid == table.radio_state.cid then Some (radio_state m)
    else if cid == table.pin.cid then Some (zeros 3)
    else if cid == table.home_provider.cid then Some (provider m.profile)
    else if cid == table.visible_providers.cid then visible_providers (number_at asked 0) m
    else if cid == table.register_state.cid then Some (register_state m)
    else if cid == table.packet_service.cid then Some (packet_service m)
    else if cid == table.signal_state.cid then Some signal_state
    else if cid == table.connect.cid then Some (connection (number_at asked 0) m)
    else if cid == table.ip_configuration.cid then Some (ip_configuration (number_at asked 0))
    else if cid == table.device_services.cid then Some device_services
    else if cid == table.packet_statistics.cid then Some (zeros 8)
    else if cid == table.emergency_mode.cid then Some (zeros 1)
    else None

abbrev pub answer_to_set : (cid : ℕ) → List Value → Modem → Option Outcome
answer_to_set cid asked m =
    if cid == table.radio_state.cid then set_radio (number_at asked 0) m
    else if cid == table.packet_service.cid then set_packet_service (number_at asked 0) m
    else if cid == table.connect.cid then connect (number_at asked 0) (number_at asked 1) m
    else None
