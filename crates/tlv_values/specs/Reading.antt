-- The value that bytes spell in a form.
-- Source: libqmi's data/qmi-service-*.json, and how its build-aux/qmi-codegen reads each `format`.
use Rattle.std.specs.Prelude.{ℕ, zero, suc, nat_le, ◌==◌, List, [], ◌∷◌, length, take, drop, Option, Some, None, option_map, option_and_then, if◌then◌else◌}
use Rattle.tlv_codec.specs.Tlv.{tlv_value}
use Rattle.qmi_shapes.specs.declared.shape.Prefix.{Prefix}
use Rattle.qmi_shapes.specs.declared.shape.Prefix.TheVariants.{Rest, Fixed, Counted}
use Rattle.qmi_shapes.specs.Form.{Form, unsigned, signed, string, array, sequence, Fields, no_fields, field}
use Rattle.qmi_values.specs.Value.{Value, number, integer, text, elements, members, values_of}
use Rattle.qmi_values.specs.Numbers.{little_endian, twos_complement}

-- what the front of some bytes spells, and the bytes that are left behind it
pub record Front (A : Type 0) : Type 0 where
  pub value : A
  pub left : List ℕ

-- the same front, seen as something else
abbrev pub seen_as : {A B : Type 0} → (A → B) → Option (Front A) → Option (Front B)
seen_as view = option_map (λ front. record { value = view front.value; left = front.left })

-- so many bytes, if there are so many
abbrev pub octets_of : ℕ → List ℕ → Option (Front (List ℕ))
octets_of size bytes = if nat_le size (length bytes) then Some (record { value = take size bytes; left = drop size bytes }) else None

-- how many bytes or elements there are
abbrev pub count_of : Prefix → List ℕ → Option (Front ℕ)
count_of Rest bytes = Some (record { value = length bytes; left = bytes })
count_of (Fixed count) bytes = Some (record { value = count; left = bytes })
count_of (Counted size) bytes = seen_as little_endian (octets_of size bytes)

-- so many values, one after another
abbrev pub each_of : (List ℕ → Option (Front Value)) → ℕ → List ℕ → Option (Front (List Value))
each_of read zero bytes = Some (record { value = []; left = bytes })
each_of read (suc count) bytes = option_and_then (λ first. seen_as (λ values. first.value ∷ values) (each_of read count first.left)) (read bytes)

abbrev mutual
  pub value_of : Form → List ℕ → Option (Front Value)
  value_of (unsigned size) bytes = seen_as (λ digits. number (little_endian digits)) (octets_of size bytes)
  value_of (signed size) bytes = seen_as (λ digits. integer (twos_complement size (little_endian digits))) (octets_of size bytes)
  value_of (string prefix) bytes = option_and_then (λ count. seen_as text (octets_of count.value count.left)) (count_of prefix bytes)
  value_of (array prefix element) bytes =
      option_and_then (λ count. seen_as (λ values. elements (values_of values)) (each_of (value_of element) count.value count.left)) (count_of prefix bytes)
  value_of (sequence fields) bytes = seen_as (λ values. members (values_of values)) (fields_of fields bytes)

  pub fields_of : Fields → List ℕ → Option (Front (List Value))
  fields_of no_fields bytes = Some (record { value = []; left = bytes })
  fields_of (field name form more) bytes = option_and_then (λ first. seen_as (λ values. first.value ∷ values) (fields_of more first.left)) (value_of form bytes)

-- the value, where nothing is left behind it
abbrev pub alone : Front Value → Option Value
alone front = if length front.left == 0 then Some front.value else None

-- the value that these bytes spell, if they spell one
abbrev pub reading : Form → List ℕ → Option Value
reading form bytes = option_and_then alone (value_of form bytes)

-- the value of the first TLV of a type, where these bytes are TLVs and have one whose value reads
abbrev pub value_in : ℕ → Form → List ℕ → Option Value
value_in kind form tlvs = option_and_then (reading form) (tlv_value kind tlvs)
