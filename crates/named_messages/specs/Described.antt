-- What a message takes and what it gives, in lines for people who write JSON: each TLV and each field by its name, with what stands for its value.
-- Source: the members `input`, `output` and `format` in libqmi's data/qmi-service-*.json.
use Rattle.std.specs.Prelude.{ℕ, ◌+◌, ◌-◌, ◌*◌, ◌/◌, ◌%◌, ◌^◌, ◌==◌, min, Bool, false, List, [], ◌∷◌, ◌++◌, codes, decimal, encode_utf8_all, if◌then◌else◌}
use Rattle.std.specs.List.{flat_map}
use Rattle.print_text.specs.Lines.{line, front, heading, deeper}
use Rattle.print_text.specs.Texts.{hex_pair}
use Rattle.qmi_shapes.specs.declared.shape.Prefix.{Prefix}
use Rattle.qmi_shapes.specs.declared.shape.Prefix.TheVariants.{Rest, Fixed, Counted}
use Rattle.qmi_shapes.specs.Form.{Form, unsigned, signed, string, array, sequence, Fields, no_fields, field}
use Rattle.message_tables.specs.Tlvs.{TlvForm, is_byte}
use Rattle.message_tables.specs.Messages.{MessageForm}

-- ---- what stands for a value ----

-- the largest number of so many bytes, which are 8 at most
abbrev pub largest : ℕ → ℕ
largest size = 2 ^ (8 * min size 8) - 1

unfoldable pub unsigned_words : ℕ → List ℕ
unsigned_words size = codes "number, 0 to " ++ decimal (largest size)

-- in two's complement
abbrev pub signed_words : ℕ → List ℕ
signed_words size = codes "number, -" ++ decimal (largest size / 2 + 1) ++ codes " to " ++ decimal (largest size / 2)

-- how many there may be
abbrev pub many : Prefix → List ℕ → List ℕ
many Rest unit = []
many (Fixed count) unit = codes ", " ++ decimal count ++ unit
many (Counted size) unit = codes ", up to " ++ decimal (largest size) ++ unit

abbrev mutual
  -- the lines of a value under a name; what is inside stands one level deeper
  pub form_text : List ℕ → List ℕ → Form → List ℕ
  form_text indent name (unsigned size) = line indent name (unsigned_words size)
  form_text indent name (signed size) = line indent name (signed_words size)
  form_text indent name (string prefix) = line indent name (codes "text" ++ many prefix (codes " bytes"))
  form_text indent name (array prefix element) =
      if is_byte element then line indent name (codes "hexadecimal digits" ++ many prefix (codes " bytes"))
      else (line indent name (codes "list" ++ many prefix (codes " elements")) ++ form_text (deeper indent) (codes "each") element)
  form_text indent name (sequence fields) = line indent name (codes "object") ++ fields_text (deeper indent) fields

  pub fields_text : List ℕ → Fields → List ℕ
  fields_text indent no_fields = []
  fields_text indent (field name form more) = form_text indent (encode_utf8_all name) form ++ fields_text indent more

-- ---- a message ----

abbrev pub tlv_text : TlvForm → List ℕ
tlv_text tlv = form_text (codes "  ") (encode_utf8_all tlv.name) tlv.form

abbrev pub section : List ℕ → List TlvForm → List ℕ
section name [] = line [] name (codes "nothing")
section name (tlv ∷ tlvs) = heading [] name ++ flat_map tlv_text (tlv ∷ tlvs)

unfoldable pub kind_word : Bool → List ℕ
kind_word indication = if indication then codes "indication 0x" else codes "message 0x"

-- an id in four digits
unfoldable pub id_digits : ℕ → List ℕ
id_digits id = hex_pair (id / 256) ++ hex_pair (id % 256)

-- a message's name, its kind, its id and its service
unfoldable pub title : MessageForm → List ℕ
title m = front [] (encode_utf8_all m.name) ++ kind_word m.indication ++ id_digits m.id ++ codes " of service " ++ decimal m.service ++ codes "\n"

-- the lines of a message
unfoldable pub message_text : MessageForm → List ℕ
message_text m = title m ++ section (codes "takes") m.input ++ section (codes "gives") m.output
