-- What each object adds to those before it.
use Rattle.std.specs.Prelude.{ℕ, ◌&&◌, List, [], ◌∷◌, ◌++◌, Bool, true, false, Option, Some, None, is_some, option_map, Result, Ok, Err, codes, chars, if◌then◌else◌}
use Rattle.std.specs.Str.{bytes_eq}
use Rattle.serde_json.specs.Data.{Data}
use Rattle.message_tables.specs.declared.fault.MemberName.TheVariants.{Kind, Name, Format as FormatName, CommonRef}
use Rattle.message_tables.specs.declared.fault.ObjectFault.{ObjectFault}
use Rattle.message_tables.specs.declared.fault.ObjectFault.TheVariants.{Member, Format, Twice, Deep}
use Rattle.qmi_shapes.specs.Form.{Form}
use Rattle.message_tables.specs.declared.objects.Sort.{Sort}
use Rattle.message_tables.specs.declared.objects.Sort.TheVariants.{Message, Defines, Other}
use Rattle.message_tables.specs.Reading.{Reading, faulty, unknown, known, and_then, required}
use Rattle.message_tables.specs.Members.{value_in, text_in}
use Rattle.message_tables.specs.Numbers.{tlv_id_in}
use Rattle.message_tables.specs.Definitions.{Definition, Names, named_by, first_definitions}
use Rattle.message_tables.specs.Forms.{form_of}
use Rattle.message_tables.specs.Tlvs.{nests_well}
use Rattle.message_tables.specs.Messages.{MessageForm, message_of, comes_twice, is_deep}

-- the definitions so far, the last one first, and the messages so far in their order
pub record Described : Type 0 where
  pub definitions : List (List ℕ × Definition)
  pub messages : List MessageForm

abbrev pub first_described : Described
first_described = record { definitions = first_definitions; messages = [] }

-- ---- messages ----

abbrev pub with_message : Described → Reading (Option MessageForm) → Result Described ObjectFault
with_message so_far (faulty name) = Err (Member name)
with_message so_far unknown = Err Format
with_message so_far (known None) = Ok so_far
with_message so_far (known (Some message)) =
    if comes_twice message so_far.messages then Err Twice
    else if is_deep message then Err Deep
    else Ok (record so_far { messages = so_far.messages ++ message ∷ [] })

-- ---- definitions ----

abbrev pub definition_with : Data → List ℕ → Form → List ℕ × Definition
definition_with entry reference form = (reference, record { name = option_map chars (text_in Name entry); id = tlv_id_in entry; form = form })

-- the name that an object gives a definition, and the definition
unfoldable pub definition_of : Names → Data → Reading (List ℕ × Definition)
definition_of names entry = and_then (definition_with entry) (required CommonRef (text_in CommonRef entry)) (form_of names entry)

abbrev pub with_definition : Described → Reading (List ℕ × Definition) → Result Described ObjectFault
with_definition so_far (faulty name) = Err (Member name)
with_definition so_far unknown = Err Format
with_definition so_far (known definition) =
    if nests_well definition.1.form then Ok (record so_far { definitions = definition ∷ so_far.definitions }) else Err Deep

-- ---- objects ----

-- an object that names a definition and says its form
abbrev pub defines : Data → Bool
defines entry = is_some (value_in CommonRef entry) && is_some (value_in FormatName entry)

-- what an object is, by its `type`
abbrev pub sort_by : Data → Option (List ℕ) → Result Sort ObjectFault
sort_by entry None = Err (Member Kind)
sort_by entry (Some kind) =
    if bytes_eq kind (codes "Message") then Ok (Message false)
    else if bytes_eq kind (codes "Indication") then Ok (Message true)
    else if defines entry then Ok Defines
    else Ok Other

unfoldable pub sort_of : Data → Result Sort ObjectFault
sort_of entry = sort_by entry (text_in Kind entry)

abbrev pub with_sort : Described → Data → Result Sort ObjectFault → Result Described ObjectFault
with_sort so_far entry (Err fault) = Err fault
with_sort so_far entry (Ok (Message indication)) = with_message so_far (message_of (named_by so_far.definitions) entry indication)
with_sort so_far entry (Ok Defines) = with_definition so_far (definition_of (named_by so_far.definitions) entry)
with_sort so_far entry (Ok Other) = Ok so_far

-- what the objects so far and this one describe, or why this one is refused
unfoldable pub with_object : Described → Data → Result Described ObjectFault
with_object so_far entry = with_sort so_far entry (sort_of entry)
