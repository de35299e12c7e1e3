-- The JSON value of a field's value, by how the field stands: numbers as numbers, texts, UUIDs and addresses as texts, bytes as their hexadecimal digits, lists as arrays,
-- structures as objects by their fields' names, and what the numbers of those names mean in words as members beside them.
-- Source: RFC 8259; the tables of information buffers in the USB-IF MBIM specification 1.0.
use Rattle.std.specs.Prelude.{ℕ, ◌+◌, List, [], ◌∷◌, map, Option, option_and_then, codes, encode_utf8_all, if◌then◌else◌}
use Rattle.serde_json.specs.Data.{unsigned as natural, Data, null, number as numeral, string as quoted, array as listed, object, Members, no_members, put}
use Rattle.serde_json.specs.View.{items_of}
use Rattle.mbim_fields.specs.Layout.{Fixed, u32, u64, uuid, ipv4, ipv6, prefixed_ipv4, prefixed_ipv6, Item, in_place, text, binary, structure, Form, one, each, run, perhaps, Layout, field}
use Rattle.mbim_fields.specs.Value.{Value, list_of, as_number, as_uuid, as_octets, as_text, as_elements, as_members}
use Rattle.mbimcli_print.specs.declared.texts.Family.{Family}
use Rattle.mbimcli_print.specs.declared.texts.Family.TheVariants.{Ipv4, Ipv6}
use Rattle.mbimcli_print.specs.Words.{word_for}
use Rattle.mbimcli_print.specs.Texts.{uuid_text, address_text}
use Rattle.mbimcli_print.specs.Printed.{is_count}
use Rattle.json_values.specs.Json.{hexadecimal, or_null, text_json, with_word}

-- In what follows a value that isn't of its form is null; so is an address that isn't there.

-- ---- what has one size ----

abbrev pub number_json : Value → Data
number_json value = or_null (λ n. numeral (natural n)) (as_number value)

abbrev pub uuid_json : Value → Data
uuid_json value = or_null (λ bytes. text_json (uuid_text bytes)) (as_uuid value)

abbrev pub address_json : Family → Value → Data
address_json family value = or_null (λ bytes. text_json (address_text family bytes)) (as_octets value)

-- the length of a prefix, and an address
abbrev pub pair_json : Family → List Value → Data
pair_json family (prefix ∷ address ∷ []) = object (put (codes "Address") (address_json family address) (put (codes "Prefix") (number_json prefix) no_members))
pair_json family values = null

abbrev pub prefixed_json : Family → Value → Data
prefixed_json family value = or_null (λ values. pair_json family (list_of values)) (as_members value)

abbrev pub fixed_json : Fixed → Value → Data
fixed_json u32 value = number_json value
fixed_json u64 value = number_json value
fixed_json uuid value = uuid_json value
fixed_json ipv4 value = address_json Ipv4 value
fixed_json ipv6 value = address_json Ipv6 value
fixed_json prefixed_ipv4 value = prefixed_json Ipv4 value
fixed_json prefixed_ipv6 value = prefixed_json Ipv6 value

-- ---- texts, bytes and lists ----

-- in UTF-8
abbrev pub string_json : Value → Data
string_json value = or_null (λ chars. quoted (encode_utf8_all chars)) (as_text value)

abbrev pub bytes_json : Value → Data
bytes_json value = or_null hexadecimal (as_octets value)

abbrev pub list_json : (Value → Data) → Value → Data
list_json json value = or_null (λ values. listed (items_of (map json (list_of values)))) (as_elements value)

-- ---- items and fields ----

-- the word for a value of a name, where it is a number that has one
abbrev pub word_of : List ℕ → Value → Option (List ℕ)
word_of key value = option_and_then (word_for key) (as_number value)

abbrev mutual
  pub item_json : Item → Value → Data
  item_json (in_place fixed) value = fixed_json fixed value
  item_json text value = string_json value
  item_json binary value = bytes_json value
  item_json (structure layout) value = or_null (λ values. object (with_fields layout 0 (list_of values) no_members)) (as_members value)

  pub form_json : Form → Value → Data
  form_json (one item) value = item_json item value
  form_json (each place item) value = list_json (item_json item) value
  form_json (run place fixed) value = list_json (fixed_json fixed) value
  form_json (perhaps fixed) value = fixed_json fixed value

  -- these members, and behind them the fields from a place on by their names in UTF-8, but for those that count the elements of a list
  pub with_fields : Layout → ℕ → List Value → Members → Members
  with_fields (field name form more) place (value ∷ values) so_far =
      with_fields more (place + 1) values
      (if is_count place more then so_far else with_word (encode_utf8_all name) (word_of (encode_utf8_all name) value) (put (encode_utf8_all name) (form_json form value) so_far))
  with_fields _ place values so_far = so_far

-- these members, and a field by its name in UTF-8
abbrev pub with_field : List ℕ → Form → Value → Members → Members
with_field key form value so_far = with_word key (word_of key value) (put key (form_json form value) so_far)
