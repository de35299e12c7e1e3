-- What a description's objects say of the message of a name: other messages aren't read, and a definition that can't be read defines nothing.
use Rattle.std.specs.Prelude.{ℕ, List, [], ◌∷◌, ◌||◌, false, Option, Some, None, chars, filter, fold, Result, Ok, Err, if◌then◌else◌}
use Rattle.std.specs.List.{before_first}
use Rattle.serde_json.specs.Data.{Data, Items, no_items, item}
use Rattle.message_tables.specs.Comments.{json_text}
use Rattle.message_tables.specs.Definitions.{Definition, Names, named_by, first_definitions}
use Rattle.message_tables.specs.Members.{text_in, objects_in}
use Rattle.message_tables.specs.Messages.{MessageForm, message_with, is_deep}
use Rattle.message_tables.specs.Objects.{sort_of, definition_of}
use Rattle.message_tables.specs.Reading.{Reading, faulty, unknown, known}
use Rattle.message_tables.specs.Tables.{value_of}
use Rattle.message_tables.specs.Tlvs.{nests_well, has_twice}
use Rattle.message_tables.specs.declared.fault.MemberName.TheVariants.{Service}
use Rattle.named_messages.specs.declared.fault.NamedFault.{NamedFault}
use Rattle.named_messages.specs.declared.fault.NamedFault.TheVariants.{Json, Missing, Several, Member, Format, Twice, Deep}
use Rattle.named_messages.specs.Named.{is_definition, is_named}
use Rattle.named_messages.specs.Services.{service_called}

-- ---- definitions ----

abbrev pub Definitions : Type 0
Definitions = List (List ℕ × Definition)

abbrev pub defined_by : Definitions → Reading (List ℕ × Definition) → Definitions
defined_by earlier (faulty which) = earlier
defined_by earlier unknown = earlier
defined_by earlier (known definition) = if nests_well definition.1.form then definition ∷ earlier else earlier

-- one object more
abbrev pub defined_with : Definitions → Data → Definitions
defined_with earlier entry = if is_definition (sort_of entry) then defined_by earlier (definition_of (named_by earlier) entry) else earlier

-- what objects define, the last one first
abbrev pub defined_in : List Data → Definitions
defined_in objects = fold defined_with first_definitions objects

-- ---- the message ----

abbrev pub message_by : Reading MessageForm → Result MessageForm NamedFault
message_by (faulty which) = Err (Member which)
message_by unknown = Err Format
message_by (known message) =
    if has_twice message.input || has_twice message.output then Err Twice
    else if is_deep message then Err Deep
    else Ok message

abbrev pub message_for : Names → Data → List ℕ → Option ℕ → Result MessageForm NamedFault
message_for names entry name None = Err (Member Service)
message_for names entry name (Some service) = message_by (message_with names entry false (chars name) service)

abbrev pub message_of_service : Names → Data → List ℕ → Option (List ℕ) → Result MessageForm NamedFault
message_of_service names entry name None = Err (Member Service)
message_of_service names entry name (Some service) = message_for names entry name (service_called service)

-- the message that an object describes under this name
unfoldable pub message_in : Names → List ℕ → Data → Result MessageForm NamedFault
message_in names name entry = message_of_service names entry name (text_in Service entry)

abbrev pub only : (Data → Result MessageForm NamedFault) → List Data → Result MessageForm NamedFault
only read [] = Err Missing
only read (entry ∷ []) = read entry
only read (entry ∷ other ∷ more) = Err Several

-- the one message of this name, with the definitions before it
unfoldable pub message_named : List ℕ → List Data → Result MessageForm NamedFault
message_named name objects =
    only (message_in (named_by (defined_in (before_first (is_named name) objects))) name) (filter (is_named name) objects)

-- ---- the text ----

abbrev pub list_of : Items → List Data
list_of no_items = []
list_of (item entry more) = entry ∷ list_of more

abbrev pub named_among : List ℕ → Option Items → Result MessageForm NamedFault
named_among name None = Err Json
named_among name (Some objects) = message_named name (list_of objects)

abbrev pub named_of : List ℕ → Option Data → Result MessageForm NamedFault
named_of name None = Err Json
named_of name (Some json) = named_among name (objects_in json)

-- the one message of a name that a text describes, whose lines that are comments don't count
unfoldable pub named_in : List ℕ → List ℕ → Result MessageForm NamedFault
named_in name text = named_of name (value_of (json_text text))
