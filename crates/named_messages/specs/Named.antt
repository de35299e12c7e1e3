-- The one message of a name in a description, and what stands before it.
-- Source: the members `type`, `name` and `common-ref` in libqmi's data/qmi-service-*.json.
use Rattle.std.specs.Prelude.{ℕ, List, Bool, true, false, not, ◌&&◌, Option, Some, None, bytes_eq, Result, Ok, Err}
use Rattle.serde_json.specs.Data.{Data}
use Rattle.message_tables.specs.declared.fault.MemberName.TheVariants.{Name}
use Rattle.message_tables.specs.declared.fault.ObjectFault.{ObjectFault}
use Rattle.message_tables.specs.declared.objects.Sort.{Sort}
use Rattle.message_tables.specs.declared.objects.Sort.TheVariants.{Message, Defines, Other}
use Rattle.message_tables.specs.Members.{text_in}
use Rattle.message_tables.specs.Objects.{sort_of}

-- a message, and no indication
abbrev pub is_message : Result Sort ObjectFault → Bool
is_message (Ok (Message indication)) = not indication
is_message (Ok Defines) = false
is_message (Ok Other) = false
is_message (Err fault) = false

abbrev pub is_definition : Result Sort ObjectFault → Bool
is_definition (Ok (Message indication)) = false
is_definition (Ok Defines) = true
is_definition (Ok Other) = false
is_definition (Err fault) = false

abbrev pub is_text : Option (List ℕ) → List ℕ → Bool
is_text None name = false
is_text (Some text) name = bytes_eq text name

-- an object describes the message of this name
abbrev pub is_named : List ℕ → Data → Bool
is_named name entry = is_message (sort_of entry) && is_text (text_in Name entry) name
