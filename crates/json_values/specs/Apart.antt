-- What the laws ask of names and texts.
use Rattle.std.specs.Prelude.{◌≡◌, ℕ, List, encode_utf8_all}
use Rattle.framing.specs.Framing.{AreBytes}
use Rattle.qmi_shapes.specs.Form.{Form, array, sequence, Fields, no_fields, field}
use Rattle.qmi_values.specs.Value.{Value, text, elements, members, Values, no_values, first}
use Rattle.json_values.specs.Json.{word_key}

-- no field has this name, or a word of this name
abbrev pub IsApart : List ℕ → Fields → Type 0
IsApart key no_fields = Unit {0}
IsApart key (field name form more) = ¬ (key ≡ encode_utf8_all name) × ¬ (key ≡ word_key (encode_utf8_all name)) × IsApart key more

abbrev mutual
  -- in each sequence no two fields have one name, and none has the name of the word of one behind it
  pub HasNamesApart : Form → Type 0
  HasNamesApart (array prefix element) = HasNamesApart element
  HasNamesApart (sequence fields) = AreNamedApart fields
  HasNamesApart _ = Unit {0}

  pub AreNamedApart : Fields → Type 0
  AreNamedApart no_fields = Unit {0}
  AreNamedApart (field name form more) = IsApart (encode_utf8_all name) more × HasNamesApart form × AreNamedApart more

abbrev mutual
  -- texts are of bytes
  pub HasBytes : Value → Type 0
  HasBytes (text octets) = AreBytes octets
  HasBytes (elements values) = EachHasBytes values
  HasBytes (members values) = EachHasBytes values
  HasBytes _ = Unit {0}

  pub EachHasBytes : Values → Type 0
  EachHasBytes no_values = Unit {0}
  EachHasBytes (first value more) = HasBytes value × EachHasBytes more
