-- The JSON value of a value in its form: numbers as numbers, texts as texts, lists as arrays, sequences as objects by their fields' names,
-- and what the numbers of those names mean in words as members beside them.
-- Source: RFC 8259; the member `format` in libqmi's data/qmi-service-*.json.
use Rattle.std.specs.Prelude.{ℕ, ◌%◌, ◌&&◌, Bool, false, List, [], ◌∷◌, ◌++◌, map, Option, Some, None, option_and_then, codes, encode_utf8_all, if◌then◌else◌}
use Rattle.std.specs.List.{flat_map}
use Rattle.std.specs.Str.{is_utf8}
use Rattle.hex.specs.Hex.{encode_upper}
use Rattle.serde_json.specs.Data.{unsigned as natural, Data, null, number as numeral, string as quoted, array as listed, object, Members, no_members, member, put}
use Rattle.serde_json.specs.Find.{of_integer}
use Rattle.serde_json.specs.View.{items_of}
use Rattle.qmi_shapes.specs.Form.{Form, unsigned, signed, string, array, sequence, Fields, field}
use Rattle.qmi_values.specs.Value.{Value, number, list_of, number_in, integer_in, text_in, elements_in, members_in}
use Rattle.message_tables.specs.Tlvs.{is_byte}
use Rattle.json_values.specs.Showing.{Showing}

-- ---- texts and lists ----

-- the two hexadecimal digits of each byte
abbrev pub hexadecimal : List ℕ → Data
hexadecimal bytes = quoted (encode_upper bytes)

-- bytes that are UTF-8 as a text, others as the hexadecimal digits of an object
unfoldable pub text_json : List ℕ → Data
text_json octets = if is_utf8 octets then quoted octets else object (member (codes "hex") (hexadecimal octets) no_members)

abbrev pub low_byte : Value → List ℕ
low_byte (number n) = n % 256 ∷ []
low_byte _ = []

-- a list whose elements are bytes may stand as their digits
abbrev pub list_json : (digits : Bool) → (Value → Data) → List Value → Data
list_json digits json values = if digits then hexadecimal (flat_map low_byte values) else listed (items_of (map json values))

-- ---- words ----

-- the name of the member with the word for the number of a name
abbrev pub word_key : List ℕ → List ℕ
word_key key = key ++ codes " word"

-- the word for a value of a name, where it is a number that has one
abbrev pub word_of : Showing → List ℕ → Form → Value → Option (List ℕ)
word_of showing key (unsigned size) value = option_and_then (showing.word key) (number_in value)
word_of showing key _ value = None

abbrev pub with_word : List ℕ → Option (List ℕ) → Members → Members
with_word key None so_far = so_far
with_word key (Some word) so_far = put (word_key key) (text_json word) so_far

-- ---- values ----

-- a value that isn't of its form is null
abbrev pub or_null : {A : Type 0} → (A → Data) → Option A → Data
or_null json None = null
or_null json (Some a) = json a

abbrev pub number_json : Value → Data
number_json value = or_null (λ n. numeral (natural n)) (number_in value)

abbrev pub integer_json : Value → Data
integer_json value = or_null (λ z. numeral (of_integer z)) (integer_in value)

abbrev pub string_json : Value → Data
string_json value = or_null text_json (text_in value)

abbrev pub array_json : (digits : Bool) → (Value → Data) → Value → Data
array_json digits json value = or_null (λ values. list_json digits json (list_of values)) (elements_in value)

abbrev pub sequence_json : (List Value → Members) → Value → Data
sequence_json held value = or_null (λ values. object (held (list_of values))) (members_in value)

-- a field without a value is left out
abbrev mutual
  pub json_of : Showing → (digits : Bool) → Form → Value → Data
  json_of showing digits (unsigned size) value = number_json value
  json_of showing digits (signed size) value = integer_json value
  json_of showing digits (string prefix) value = string_json value
  json_of showing digits (array prefix element) value = array_json (digits && is_byte element) (json_of showing false element) value
  json_of showing digits (sequence fields) value = sequence_json (λ values. with_fields showing fields values no_members) value

  -- these members, and behind them the fields by their names in UTF-8
  pub with_fields : Showing → Fields → List Value → Members → Members
  with_fields showing (field name form more) (value ∷ values) so_far =
      with_fields showing more values
      (with_word (encode_utf8_all name) (word_of showing (encode_utf8_all name) form value)
      (put (encode_utf8_all name) (json_of showing (showing.digits (encode_utf8_all name)) form value) so_far))
  with_fields showing _ values so_far = so_far

-- these members, and a field by its name in UTF-8
abbrev pub with_field : Showing → List ℕ → Form → Value → Members → Members
with_field showing key form value so_far = with_word key (word_of showing key form value) (put key (json_of showing (showing.digits key) form value) so_far)
