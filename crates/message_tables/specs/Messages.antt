-- Messages and indications.
-- Source: libqmi's data/qmi-service-*.json, and Message.py in build-aux/qmi-codegen.
use Rattle.std.specs.Prelude.{ℕ, ◌==◌, ◌||◌, ◌&&◌, not, List, Bool, true, false, Option, Some, None, codes, chars, if◌then◌else◌}
use Rattle.std.specs.Str.{bytes_eq}
use Rattle.std.specs.List.{list_any}
use Rattle.serde_json.specs.Data.{Data}
use Rattle.message_tables.specs.declared.fault.MemberName.TheVariants.{Name, Service, Id, Input, Output}
use Rattle.message_tables.specs.Reading.{Reading, faulty, known, reading_map, and_then, applied, required}
use Rattle.message_tables.specs.Members.{text_in}
use Rattle.message_tables.specs.Numbers.{id_in}
use Rattle.message_tables.specs.Definitions.{Names}
use Rattle.message_tables.specs.Tlvs.{TlvForm, tlvs_in, has_twice, nest_well}

-- the name is a list of characters
pub record MessageForm : Type 0 where
  pub name : List ℕ
  pub service : ℕ
  pub id : ℕ
  pub indication : Bool
  pub input : List TlvForm
  pub output : List TlvForm

-- the number of a service whose messages are kept
-- Source: the enum QmiService in libqmi's src/libqmi-glib/qmi-enums.h.
unfoldable pub service_named : List ℕ → Option ℕ
service_named name =
    if bytes_eq name (codes "CTL") then Some 0
    else if bytes_eq name (codes "WDS") then Some 1
    else if bytes_eq name (codes "DMS") then Some 2
    else if bytes_eq name (codes "NAS") then Some 3
    else if bytes_eq name (codes "WMS") then Some 5
    else None

abbrev pub message_form : List ℕ → ℕ → Bool → ℕ → List TlvForm → List TlvForm → MessageForm
message_form name service indication id input output =
    record { name = name; service = service; id = id; indication = indication; input = input; output = output }

-- the message of a name and a service that an object describes by its `id`, `input` and `output`
unfoldable pub message_with : Names → Data → Bool → List ℕ → ℕ → Reading MessageForm
message_with names entry indication name service =
    applied (and_then (message_form name service indication) (required Id (id_in entry)) (tlvs_in Input names entry)) (tlvs_in Output names entry)

abbrev pub message_for : Names → Data → Bool → List ℕ → Option ℕ → Reading (Option MessageForm)
message_for names entry indication name None = known None
message_for names entry indication name (Some service) = reading_map Some (message_with names entry indication name service)

abbrev pub message_by : Names → Data → Bool → Option (List ℕ) → Option (List ℕ) → Reading (Option MessageForm)
message_by names entry indication None service = faulty Name
message_by names entry indication (Some name) None = faulty Service
message_by names entry indication (Some name) (Some service) = message_for names entry indication (chars name) (service_named service)

-- the message that an object describes, or None where its service isn't kept
unfoldable pub message_of : Names → Data → Bool → Reading (Option MessageForm)
message_of names entry indication = message_by names entry indication (text_in Name entry) (text_in Service entry)

-- ---- what is refused of a message that reads ----

abbrev pub same_bool : Bool → Bool → Bool
same_bool true b = b
same_bool false b = not b

-- the message of a service that has this id and this kind
abbrev pub is_key : ℕ → ℕ → Bool → MessageForm → Bool
is_key service id indication message = service == message.service && id == message.id && same_bool indication message.indication

-- an earlier message has the service, the id and the kind
abbrev pub is_among : MessageForm → List MessageForm → Bool
is_among message earlier =
    list_any (is_key message.service message.id message.indication) earlier

abbrev pub comes_twice : MessageForm → List MessageForm → Bool
comes_twice message earlier = is_among message earlier || (has_twice message.input || has_twice message.output)

abbrev pub is_deep : MessageForm → Bool
is_deep message = not (nest_well message.input && nest_well message.output)
