-- The text of a value, by its form and its name, with the words for numbers or without them.
use Rattle.std.specs.Prelude.{ℕ, List, [], ◌∷◌, ◌++◌, encode_utf8_all, if◌then◌else◌}
use Rattle.std.specs.Fmt.{signed_decimal}
use Rattle.std.specs.List.{flat_map}
use Rattle.print_text.specs.Lines.{line, heading, deeper, counted_text}
use Rattle.print_text.specs.declared.wording.Wording.{Wording}
use Rattle.qmi_shapes.specs.Form.{Form, unsigned, signed, string, array, sequence, Fields, field}
use Rattle.qmi_values.specs.Value.{Value, number, integer, text, elements, members, list_of}
use Rattle.qmicli_print.specs.declared.shown.Shown.{Shown}
use Rattle.qmicli_print.specs.declared.shown.Shown.TheVariants.{Plainly}
use Rattle.qmicli_print.specs.Words.{is_bytes, shown_as}
use Rattle.qmicli_print.specs.Texts.{escaped, hex_of, number_text}

-- the text of a list that is shown so, by the texts of its elements
abbrev pub list_text : Shown → (List ℕ → List ℕ → Value → List ℕ) → List ℕ → List ℕ → List Value → List ℕ
list_text shown element indent title values =
    if is_bytes shown then line indent title (flat_map hex_of values)
    else counted_text element indent title values

-- the text of a value that is shown so, under a title; the elements of a list are shown plainly, and the fields of a sequence as their names say
-- a value that isn't of its form has no text
abbrev mutual
  pub titled_text : Wording → Form → Shown → List ℕ → List ℕ → Value → List ℕ
  titled_text wording (unsigned size) shown indent title (number n) = line indent title (number_text wording shown n)
  titled_text wording (signed size) shown indent title (integer z) = line indent title (signed_decimal z)
  titled_text wording (string prefix) shown indent title (text octets) = line indent title (flat_map escaped octets)
  titled_text wording (array prefix element) shown indent title (elements values) = list_text shown (titled_text wording element Plainly) indent title (list_of values)
  titled_text wording (sequence fields) shown indent title (members values) = heading indent title ++ fields_text wording fields (deeper indent) (list_of values)
  titled_text wording form shown indent title value = []

  -- the texts of fields, each with its name
  pub fields_text : Wording → Fields → List ℕ → List Value → List ℕ
  fields_text wording (field name form more) indent (value ∷ values) =
      titled_text wording form (shown_as (encode_utf8_all name)) indent (encode_utf8_all name) value ++ fields_text wording more indent values
  fields_text wording _ indent values = []

-- a field under its own name
abbrev pub value_text : Wording → Form → List ℕ → List ℕ → Value → List ℕ
value_text wording form indent name value = titled_text wording form (shown_as name) indent name value
