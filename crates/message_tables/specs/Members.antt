-- The members of a description's objects. Of members of one name the last counts, as JSON's reader says.
use Rattle.std.specs.Prelude.{ℕ, List, Bool, true, ◌&&◌, Option, Some, None, is_some, option_and_then, codes, if◌then◌else◌}
use Rattle.serde_json.specs.Data.{Data, Items, no_items, item}
use Rattle.serde_json.specs.Find.{get, as_str, as_array, as_object}
use Rattle.message_tables.specs.declared.fault.MemberName.{MemberName}
use Rattle.message_tables.specs.declared.fault.MemberName.TheVariants.{Kind, Name, Service, Id, Input, Output, Format, Contents, ArrayElement, SizePrefixFormat, FixedSize, GuintSize, Endian, SequencePrefixFormat, CommonRef}

-- the name of a member in JSON
unfoldable pub member_text : MemberName → List ℕ
member_text Kind = codes "type"
member_text Name = codes "name"
member_text Service = codes "service"
member_text Id = codes "id"
member_text Input = codes "input"
member_text Output = codes "output"
member_text Format = codes "format"
member_text Contents = codes "contents"
member_text ArrayElement = codes "array-element"
member_text SizePrefixFormat = codes "size-prefix-format"
member_text FixedSize = codes "fixed-size"
member_text GuintSize = codes "guint-size"
member_text Endian = codes "endian"
member_text SequencePrefixFormat = codes "sequence-prefix-format"
member_text CommonRef = codes "common-ref"

abbrev pub value_in : MemberName → Data → Option Data
value_in which entry = get (member_text which) entry

-- the bytes of a member that is a text
abbrev pub text_in : MemberName → Data → Option (List ℕ)
text_in which entry = option_and_then as_str (value_in which entry)

abbrev pub is_object : Data → Bool
is_object value = is_some (as_object value)

abbrev pub are_objects : Items → Bool
are_objects no_items = true
are_objects (item value values) = is_object value && are_objects values

-- the objects of a list that has nothing else
abbrev pub objects_in : Data → Option Items
objects_in value = option_and_then (λ values. if are_objects values then Some values else None) (as_array value)
