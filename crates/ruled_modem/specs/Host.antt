-- What is known of a modem's host by the messages that reached the modem, and by what it answered: what the modem's messages to it may be.
-- Source: the USB-IF MBIM specification 1.0, sections 9.3.1 and 10.5.30; for QMI, client ids of CTL. Lists of messages have the newest first.
use Rattle.std.specs.Prelude.{ℕ, ◌&&◌, ◌||◌, ◌==◌, Bool, bytes_eq, nat_lt, min, max, List, [], ◌∷◌, ◌++◌, length, position, remove, slice_index, Option, Some, None, is_some, unwrap_or, if◌then◌else◌}
use Rattle.std.specs.List.{list_any}
use Rattle.kit_bytes.specs.Indications.{wants}
use Rattle.kit_bytes.specs.Numbers.{number_at}
use Rattle.kit_bytes.specs.Services.{starting_list}
use Rattle.kit_bytes.specs.Subscriptions.{Pair}
use Rattle.kit_bytes.specs.declared.services.TheConstants.{BASIC_CONNECT}
use Rattle.kit_bytes.specs.declared.Kind.{Kind}
use Rattle.kit_bytes.specs.declared.Kind.TheVariants.{Qmi, Mbim}
use Rattle.mbim_frame.specs.declared.bodies.CommandHead.{CommandHead}
use Rattle.mbim_frame.specs.Bodies.{buffer_of}
use Rattle.mbim_frame.specs.Fragment.{body_of}
use Rattle.mbim_services.specs.SubscribeLists.{list_of_buffer}
use Rattle.mbim_services.specs.Table as table
use Rattle.modem_rules.specs.declared.kind.RequestKind.{RequestKind}
use Rattle.modem_rules.specs.declared.kind.RequestKind.TheVariants.{Message, Command}
use Rattle.sim_mbim.specs.Answers.{request_of}
use Rattle.sim_mbim.specs.BasicConnect.{list_taken}
use Rattle.sim_mbim.specs.declared.request.Request.{Request}
use Rattle.sim_mbim.specs.declared.request.Request.TheVariants as asked
use Rattle.sim_modem.specs.Sim.{Answering}
use Rattle.ruled_modem.specs.Requests.{command_in}

pub record Host : Type 0 where
  -- MBIM: how many bytes a message to it may have since it opened the modem, and the buffer of the list that it set last
  pub opened : Option ℕ
  pub list : Option (List ℕ)
  -- QMI: the service of each client id that is given
  pub services : List ℕ

abbrev pub fresh : Host
fresh = record { opened = None; list = None; services = [] }

-- ---- MBIM ----

abbrev pub opened_by : Request → Option ℕ → Option ℕ
opened_by (asked.Open longest) opened = Some (min (max longest 64) 4096)
opened_by _ opened = opened

abbrev pub opened_then : (message : List ℕ) → Option ℕ → Option ℕ
opened_then message opened = if nat_lt (length message) 12 then opened else opened_by (request_of message) opened

-- MBIM_CID_DEVICE_SERVICE_SUBSCRIBE_LIST
abbrev pub sets_list : CommandHead → Bool
sets_list head = head.set && bytes_eq head.uuid BASIC_CONNECT && head.cid == table.subscribe_list.cid

abbrev pub list_by : (buffer : List ℕ) → Option CommandHead → Option (List ℕ)
list_by buffer None = None
list_by buffer (Some head) = if sets_list head && is_some (list_taken buffer) then Some buffer else None

abbrev pub list_or : (list new : Option (List ℕ)) → Option (List ℕ)
list_or list None = list
list_or list (Some new) = Some new

-- only a modem that is open takes a list; one that comes in parts isn't looked at
abbrev pub list_then : (message : List ℕ) → Host → Option (List ℕ)
list_then message host = if is_some host.opened then list_or host.list (list_by (buffer_of (body_of message)) (command_in message)) else host.list

abbrev pub pairs_of : Option (List ℕ) → List Pair
pairs_of None = starting_list
pairs_of (Some buffer) = unwrap_or (list_of_buffer buffer) []

-- ---- QMI ----

-- the service that a success of CTL names, which has the Result TLV and then TLV 0x01 with a service and a client id
abbrev pub service_in : (id : ℕ) → (answer : List ℕ) → Option ℕ
service_in id answer =
    if length answer == 24 && slice_index answer 4 == 0 && number_at answer 8 2 == id && number_at answer 17 2 == 0 then Some (slice_index answer 22) else None

-- Allocate Client ID, and Release Client ID
abbrev pub allocate : ℕ
allocate = 0x0022

abbrev pub release : ℕ
release = 0x0023

abbrev pub has : List ℕ → (service : ℕ) → Bool
has services service = list_any (λ other. other == service) services

abbrev pub place_of : List ℕ → (service : ℕ) → Option ℕ
place_of services service = position (λ other. other == service) services

abbrev pub without : Option ℕ → List ℕ → List ℕ
without None services = services
without (Some place) services = remove services place

abbrev pub with_allocated : Option ℕ → List ℕ → List ℕ
with_allocated None services = services
with_allocated (Some service) services = services ++ service ∷ []

abbrev pub without_released : Option ℕ → List ℕ → List ℕ
without_released None services = services
without_released (Some service) services = without (place_of services service) services

abbrev pub services_then : (answer : List ℕ) → List ℕ → List ℕ
services_then answer services = without_released (service_in release answer) (with_allocated (service_in allocate answer) services)

-- ---- both ----

-- behind one message more, which the modem answered so
abbrev pub host_then : Kind → (message answer : List ℕ) → Host → Host
host_then Qmi message answer host = record host { services = services_then answer host.services }
host_then Mbim message answer host = record host { opened = opened_then message host.opened; list = list_then message host }

abbrev pub host_after : Kind → Answering → (reached : List (List ℕ)) → Host
host_after modem answers [] = fresh
host_after modem answers (message ∷ reached) = host_then modem message (answers reached message) (host_after modem answers reached)

-- whether indications of this kind go to it: of CTL, of a service of which an id is given, of what its list has once it opened the modem
abbrev pub hears : Host → RequestKind → Bool
hears host (Message service message) = service == 0 || has host.services service
hears host (Command service command) = is_some host.opened && wants (pairs_of host.list) service command

-- how many bytes a message to it has at most
abbrev pub longest : Host → ℕ
longest host = unwrap_or host.opened 4096
