-- Worked spellings and readings.
use Rattle.std.proofs.Common.{◌≡◌, ℕ, true, false, refl, ap, pos, negsuc, [], ◌∷◌, Some, None}
use Rattle.std.specs.Prelude.{List, Option, option_and_then}
use Rattle.tlv_codec.specs.Tlv.{Entry, tlv_text, first_value}
use Rattle.tlv_codec.proofs.Texts.{tlvs_of-text}
use Rattle.qmi_shapes.specs.declared.shape.Prefix.TheVariants.{Rest, Counted}
use Rattle.qmi_shapes.specs.Form.{Form, unsigned, signed, string, array, sequence, no_fields, field}
use Rattle.qmi_values.specs.Value.{Value, number, integer, text, elements, members, values_of}
use Rattle.tlv_values.specs.Spelling.{fits, spelling}
use Rattle.tlv_values.specs.Reading.{reading, value_in}

-- ---- a number of two bytes ----

number_is_spelled : spelling (unsigned 2) (number 0x1234) ≡ 0x34 ∷ 0x12 ∷ []
number_is_spelled = refl

number_reads : reading (unsigned 2) (0x34 ∷ 0x12 ∷ []) ≡ Some (number 0x1234)
number_reads = refl

largest_fits : fits (unsigned 2) (number 65535) ≡ true
largest_fits = refl

larger_does_not : fits (unsigned 2) (number 65536) ≡ false
larger_does_not = refl

-- ---- a signed number of one byte: -70 ----

signed_is_spelled : spelling (signed 1) (integer (negsuc 69)) ≡ 186 ∷ []
signed_is_spelled = refl

signed_reads : reading (signed 1) (186 ∷ []) ≡ Some (integer (negsuc 69))
signed_reads = refl

lowest_fits : fits (signed 1) (integer (negsuc 127)) ≡ true
lowest_fits = refl

highest_does_not : fits (signed 1) (integer (pos 128)) ≡ false
highest_does_not = refl

-- ---- a text behind its count in a byte, and one that is all the bytes ----

text_is_spelled : spelling (string (Counted 1)) (text (72 ∷ 105 ∷ [])) ≡ 2 ∷ 72 ∷ 105 ∷ []
text_is_spelled = refl

text_reads : reading (string (Counted 1)) (2 ∷ 72 ∷ 105 ∷ []) ≡ Some (text (72 ∷ 105 ∷ []))
text_reads = refl

rest_is_spelled : spelling (string Rest) (text (72 ∷ 105 ∷ [])) ≡ 72 ∷ 105 ∷ []
rest_is_spelled = refl

rest_reads : reading (string Rest) (72 ∷ 105 ∷ []) ≡ Some (text (72 ∷ 105 ∷ []))
rest_reads = refl

-- ---- a list of messages behind its count in a byte, each with its index and its tag ----

abbrev messages : Form
messages = array (Counted 1) (sequence (field [] (unsigned 2) (field [] (unsigned 1) no_fields)))

abbrev message : (index tag : ℕ) → Value
message index tag = members (values_of (number index ∷ number tag ∷ []))

abbrev two : Value
two = elements (values_of (message 0 1 ∷ message 258 3 ∷ []))

two_fit : fits messages two ≡ true
two_fit = refl

two_are_spelled : spelling messages two ≡ 2 ∷ 0 ∷ 0 ∷ 1 ∷ 2 ∷ 1 ∷ 3 ∷ []
two_are_spelled = refl

two_read : reading messages (2 ∷ 0 ∷ 0 ∷ 1 ∷ 2 ∷ 1 ∷ 3 ∷ []) ≡ Some two
two_read = refl

-- a value with a field too few doesn't fit
short_value : fits messages (elements (values_of (members (values_of (number 0 ∷ [])) ∷ []))) ≡ false
short_value = refl

-- ---- bytes that are cut off, and bytes with one left behind ----

cut_bytes : reading messages (2 ∷ 0 ∷ 0 ∷ 1 ∷ 2 ∷ 1 ∷ []) ≡ None
cut_bytes = refl

one_left : reading messages (2 ∷ 0 ∷ 0 ∷ 1 ∷ 2 ∷ 1 ∷ 3 ∷ 0 ∷ []) ≡ None
one_left = refl

-- ---- in TLVs: the first of a type ----

in_tlvs : (kind : ℕ) (form : Form) (entries : List Entry) → value_in kind form (tlv_text entries) ≡ option_and_then (reading form) (first_value kind entries)
in_tlvs kind form entries = ap (λ (o : Option (List Entry)). option_and_then (reading form) (option_and_then (first_value kind) o)) (tlvs_of-text entries)

abbrev entry : (kind : ℕ) (value : List ℕ) → Entry
entry kind value = record { kind = kind; value = value }

first_of_two : value_in 0x01 (unsigned 1) (tlv_text (entry 0x10 (9 ∷ []) ∷ entry 0x01 (7 ∷ []) ∷ entry 0x01 (8 ∷ []) ∷ [])) ≡ Some (number 7)
first_of_two = in_tlvs 0x01 (unsigned 1) (entry 0x10 (9 ∷ []) ∷ entry 0x01 (7 ∷ []) ∷ entry 0x01 (8 ∷ []) ∷ [])

first_does_not_read : value_in 0x01 (unsigned 2) (tlv_text (entry 0x01 (7 ∷ []) ∷ entry 0x01 (8 ∷ 0 ∷ []) ∷ [])) ≡ None
first_does_not_read = in_tlvs 0x01 (unsigned 2) (entry 0x01 (7 ∷ []) ∷ entry 0x01 (8 ∷ 0 ∷ []) ∷ [])
