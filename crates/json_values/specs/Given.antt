-- The value that a JSON value gives in a form: numbers as numbers, texts as texts, lists as lists, sequences as objects by their fields' names,
-- and lists of bytes as hexadecimal digits too.
-- Source: the member `format` in libqmi's data/qmi-service-*.json; RFC 8259.
use Rattle.std.specs.Prelude.{ℕ, ℤ, pos, negsuc, ◌+◌, ◌==◌, List, [], ◌∷◌, length, map, chars, bytes_eq, Bool, false, Option, Some, None, option_and_then, Ok, Err, if◌then◌else◌}
use Rattle.std.specs.List.{list_any}
use Rattle.std.specs.Str.{encode_utf8_all}
use Rattle.serde_json.specs.Data.{Data, Items, no_items, item, Members, no_members, member}
use Rattle.serde_json.specs.Events.{items_len}
use Rattle.serde_json.specs.Find.{get, as_number, as_u64, as_i64, as_array, as_object}
use Rattle.qmi_shapes.specs.declared.shape.Prefix.{Prefix}
use Rattle.qmi_shapes.specs.Form.{Form, unsigned, signed, string, array, sequence, Fields, no_fields, field}
use Rattle.qmi_values.specs.Value.{Value, number, integer, text, elements, members, values_of}
use Rattle.tlv_values.specs.Spelling.{unsigned_fits, signed_fits, count_fits}
use Rattle.message_tables.specs.Tlvs.{is_byte}
use Rattle.json_values.specs.declared.path.Step.TheVariants.{Member, Element}
use Rattle.json_values.specs.Paths.{Fitting, fitting, fitting_as, under, both}
use Rattle.json_values.specs.Texts.{digits_in, octets_in}

-- ---- numbers ----

abbrev pub if_unsigned : ℕ → ℕ → Option ℕ
if_unsigned size n = if unsigned_fits size n then Some n else None

abbrev pub if_signed : ℕ → ℤ → Option ℤ
if_signed size z = if signed_fits size z then Some z else None

-- the bits of an integer but for its sign, those of a negative one turned round
abbrev pub magnitude : ℤ → ℕ
magnitude (pos n) = n
magnitude (negsuc n) = n

-- the integer that fits so many bytes
abbrev pub unsigned_in : ℕ → Data → Option ℕ
unsigned_in size json = option_and_then (if_unsigned size) (option_and_then as_u64 (as_number json))

-- the integer that fits so many bytes in two's complement
abbrev pub signed_in : ℕ → Data → Option ℤ
signed_in size json = option_and_then (if_signed size) (option_and_then as_i64 (as_number json))

-- ---- texts and lists ----

-- there may be so many bytes or elements
abbrev pub if_counted : {A : Type 0} → Prefix → ℕ → Fitting A → Fitting A
if_counted prefix count given = if count_fits prefix count then given else Err []

abbrev pub text_by : Prefix → Option (List ℕ) → Fitting Value
text_by prefix None = Err []
text_by prefix (Some octets) = if_counted prefix (length octets) (Ok (text octets))

-- what each element gives; the first has this number
abbrev pub elements_by : (Data → Fitting Value) → ℕ → Items → Fitting (List Value)
elements_by read at no_items = Ok []
elements_by read at (item json more) = both (λ first values. first ∷ values) (under (Element at) (read json)) (elements_by read (at + 1) more)

abbrev pub list_by : Prefix → Option Items → (Data → Fitting Value) → Fitting Value
list_by prefix None read = Err []
list_by prefix (Some items) read = if_counted prefix (items_len items) (fitting_as (λ values. elements (values_of values)) (elements_by read 0 items))

abbrev pub bytes_or : Prefix → Option (List ℕ) → Fitting Value → Fitting Value
bytes_or prefix (Some bytes) list = if_counted prefix (length bytes) (Ok (elements (values_of (map number bytes))))
bytes_or prefix None list = list

abbrev pub digits_for : Form → Data → Option (List ℕ)
digits_for element json = if is_byte element then digits_in json else None

-- ---- sequences ----

-- a name of characters is this one of bytes
abbrev pub is_named : List ℕ → List ℕ → Bool
is_named key name = bytes_eq (encode_utf8_all name) key

-- the name of the first member that none of these names is
abbrev pub first_other : List (List ℕ) → Members → Option (List ℕ)
first_other names no_members = None
first_other names (member key json more) = if list_any (is_named key) names then first_other names more else Some key

abbrev pub unless_other : {A : Type 0} → Option (List ℕ) → Fitting A → Fitting A
unless_other None given = given
unless_other (Some key) given = Err (Member (chars key) ∷ [])

abbrev pub names_of : Fields → List (List ℕ)
names_of no_fields = []
names_of (field name form more) = name ∷ names_of more

abbrev pub sequence_by : Option Members → List (List ℕ) → Fitting (List Value) → Fitting Value
sequence_by None names values = Err []
sequence_by (Some others) names values = unless_other (first_other names others) (fitting_as (λ vs. members (values_of vs)) values)

-- what a member gives that has to be there
abbrev pub member_by : (Data → Fitting Value) → Option Data → Fitting Value
member_by read None = Err []
member_by read (Some json) = read json

abbrev pub named_by : List ℕ → (Data → Fitting Value) → Option Data → Fitting Value
named_by name read json = under (Member name) (member_by read json)

-- ---- values ----

abbrev mutual
  pub given : Form → Data → Fitting Value
  given (unsigned size) json = fitting number (unsigned_in size json)
  given (signed size) json = fitting integer (signed_in size json)
  given (string prefix) json = text_by prefix (octets_in json)
  given (array prefix element) json = bytes_or prefix (digits_for element json) (list_by prefix (as_array json) (given element))
  given (sequence fields) json = sequence_by (as_object json) (names_of fields) (fields_given fields json)

  -- what an object's members give the fields of their names
  pub fields_given : Fields → Data → Fitting (List Value)
  fields_given no_fields json = Ok []
  fields_given (field name form more) json =
      both (λ first values. first ∷ values) (named_by name (given form) (get (encode_utf8_all name) json)) (fields_given more json)
