-- The formats of values, and the sizes of texts, lists and numbers.
-- Source: Variable.py, VariableFactory.py, VariableInteger.py, VariableString.py and VariableArray.py in libqmi's build-aux/qmi-codegen.
use Rattle.std.specs.Prelude.{ℕ, ◌&&◌, ◌||◌, List, Bool, true, false, Option, Some, None, is_none, unwrap_or, option_map, option_and_then, codes, if◌then◌else◌}
use Rattle.std.specs.Str.{bytes_eq}
use Rattle.serde_json.specs.Data.{Data}
use Rattle.serde_json.specs.Find.{as_str}
use Rattle.qmi_shapes.specs.declared.shape.Prefix.{Prefix}
use Rattle.qmi_shapes.specs.declared.shape.Prefix.TheVariants.{Fixed, Counted}
use Rattle.message_tables.specs.declared.fault.MemberName.TheVariants.{SizePrefixFormat, FixedSize, GuintSize, Endian, SequencePrefixFormat}
use Rattle.message_tables.specs.declared.format.Format.{Format}
use Rattle.message_tables.specs.declared.format.Format.TheVariants.{Unsigned, Signed, Sized, Text, Array, Sequence}
use Rattle.message_tables.specs.Reading.{Reading, known, reading_map, required}
use Rattle.message_tables.specs.Members.{value_in}
use Rattle.message_tables.specs.Numbers.{size_of}

-- the format of a name
unfoldable pub format_named : List ℕ → Option Format
format_named name =
    if bytes_eq name (codes "guint8") then Some (Unsigned 1)
    else if bytes_eq name (codes "guint16") then Some (Unsigned 2)
    else if bytes_eq name (codes "guint32") then Some (Unsigned 4)
    else if bytes_eq name (codes "guint64") then Some (Unsigned 8)
    else if bytes_eq name (codes "gint8") then Some (Signed 1)
    else if bytes_eq name (codes "gint16") then Some (Signed 2)
    else if bytes_eq name (codes "gint32") then Some (Signed 4)
    else if bytes_eq name (codes "gint64") then Some (Signed 8)
    else if bytes_eq name (codes "guint-sized") then Some Sized
    else if bytes_eq name (codes "string") then Some Text
    else if bytes_eq name (codes "array") then Some Array
    else if bytes_eq name (codes "sequence") || bytes_eq name (codes "struct") then Some Sequence
    else None

-- numbers have their lowest byte first, as they have where nothing is said
abbrev pub is_little : Option Data → Bool
is_little None = true
is_little (Some order) = unwrap_or (option_map (bytes_eq (codes "little")) (as_str order)) false

-- no number stands before a list's elements but their count
abbrev pub is_plain : Data → Bool
is_plain entry = is_little (value_in Endian entry) && is_none (value_in SequencePrefixFormat entry)

-- the format of this name in an object, where the object doesn't lay its bytes out otherwise
unfoldable pub format_of : Data → List ℕ → Option Format
format_of entry name = if is_plain entry then format_named name else None

-- how many bytes a count of this format has
unfoldable pub count_named : List ℕ → Option ℕ
count_named name =
    if bytes_eq name (codes "guint8") then Some 1
    else if bytes_eq name (codes "guint16") then Some 2
    else if bytes_eq name (codes "guint32") then Some 4
    else None

-- the size in bytes of a number whose format leaves it open
unfoldable pub number_size : Data → Reading ℕ
number_size entry = required GuintSize (option_and_then (size_of 8) (value_in GuintSize entry))

abbrev pub prefix_by : Option Data → Option Data → Reading (Option Prefix)
prefix_by (Some size) count = reading_map (λ n. Some (Fixed n)) (required FixedSize (size_of 65535 size))
prefix_by None (Some count) = reading_map (λ n. Some (Counted n)) (required SizePrefixFormat (option_and_then count_named (as_str count)))
prefix_by None None = known None

-- how many bytes a text or elements a list has, where the object says so: a fixed size goes before a count
unfoldable pub stated_prefix : Data → Reading (Option Prefix)
stated_prefix entry = prefix_by (value_in FixedSize entry) (value_in SizePrefixFormat entry)
