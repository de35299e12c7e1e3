-- Without its words the JSON of a value is the one that has none.
use Rattle.std.proofs.Common.{◌≡◌, ℕ, ◌&&◌, Bool, true, false, List, [], ◌∷◌, map, Option, Some, option_map, encode_utf8_all, refl, sym, ap, ◌∙◌}
use Rattle.std.proofs.lemmas.Bool.{and_parts}
use Rattle.std.specs.Prelude.{IsTrue}
use Rattle.std.specs.List.{list_all}
use Rattle.serde_json.specs.Data.{Data, array as listed, object, Members, no_members, put}
use Rattle.serde_json.specs.Find.{get_member}
use Rattle.serde_json.specs.View.{items_of}
use Rattle.qmi_shapes.specs.declared.shape.Prefix.{Prefix}
use Rattle.qmi_shapes.specs.Form.{Form, unsigned, signed, string, array, sequence, Fields, no_fields, field}
use Rattle.qmi_values.specs.Value.{Value, number, integer, text, elements, members, list_of, elements_in, members_in}
use Rattle.tlv_values.specs.Spelling.{fits, fields_fit}
use Rattle.message_tables.specs.Tlvs.{is_byte}
use Rattle.json_values.specs.Showing.{Showing, wordless}
use Rattle.json_values.specs.Json.{list_json, or_null, json_of, with_fields}
use Rattle.json_values.specs.Words.{each_item, in_array, put_found, without_words, fields_alone}
use Rattle.json_values.specs.Apart.{AreNamedApart}
use Rattle.json_values.specs.JsonLaws.{WordsStandBeside}
use Rattle.json_values.proofs.JsonMembers.{HoldsAll, with_fields-hold, with_no_word}

module _ (change : Data → Data) (json plain : Value → Data) (fit : Value → Bool) (good : (v : Value) → IsTrue (fit v) → change (json v) ≡ plain v) where
  items_beside : (values : List Value) → IsTrue (list_all fit values) → each_item change (items_of (map json values)) ≡ items_of (map plain values)
  items_beside [] all = refl
  items_beside (value ∷ more) all =
      let p = and_parts (fit value) (list_all fit more) all in
      rw (good value p.0, items_beside more p.1) refl

  list_beside : (digits : Bool) (values : List Value) → IsTrue (list_all fit values) → in_array change (list_json digits json values) ≡ list_json digits plain values
  list_beside true values all = refl
  list_beside false values all = ap listed (items_beside values all)

array_beside : (change : Data → Data) (json plain : Value → Data) (digits : Bool) (prefix : Prefix) (element : Form) (value : Value) → IsTrue (fits (array prefix element) value)
    → ((v : Value) → IsTrue (fits element v) → change (json v) ≡ plain v)
    → in_array change (or_null (λ values. list_json digits json (list_of values)) (elements_in value)) ≡ or_null (λ values. list_json digits plain (list_of values)) (elements_in value)
array_beside change json plain digits prefix element (elements values) fit good = list_beside change json plain (fits element) good digits (list_of values) (and_parts _ (list_all (fits element) (list_of values)) fit).1
array_beside change json plain digits prefix element (number _) fit good = absurd (cc)
array_beside change json plain digits prefix element (integer _) fit good = absurd (cc)
array_beside change json plain digits prefix element (text _) fit good = absurd (cc)
array_beside change json plain digits prefix element (members _) fit good = absurd (cc)

sequence_beside : (showing : Showing) (fields : Fields) (value : Value) → IsTrue (fits (sequence fields) value)
    → ((values : List Value) → IsTrue (fields_fit fields values) → fields_alone fields (object (with_fields showing fields values no_members)) no_members ≡ with_fields (wordless showing) fields values no_members)
    → without_words (sequence fields) (or_null (λ values. object (with_fields showing fields (list_of values) no_members)) (members_in value)) ≡ or_null (λ values. object (with_fields (wordless showing) fields (list_of values) no_members)) (members_in value)
sequence_beside showing fields (members values) fit good = ap object (good (list_of values) fit)
sequence_beside showing fields (number _) fit good = absurd (cc)
sequence_beside showing fields (integer _) fit good = absurd (cc)
sequence_beside showing fields (text _) fit good = absurd (cc)
sequence_beside showing fields (elements _) fit good = absurd (cc)

mutual
  pub words_beside : WordsStandBeside
  words_beside showing digits (unsigned size) value apart fit = refl
  words_beside showing digits (signed size) value apart fit = refl
  words_beside showing digits (string prefix) value apart fit = refl
  words_beside showing digits (array prefix element) value apart fit =
      array_beside (without_words element) (json_of showing false element) (json_of (wordless showing) false element) (digits && is_byte element) prefix element value fit (λ v fit_v. words_beside showing false element v apart fit_v)
  words_beside showing digits (sequence fields) value apart fit =
      sequence_beside showing fields value fit
      (λ values fit_vs. alone showing fields values (with_fields showing fields values no_members) no_members apart fit_vs (with_fields-hold showing fields values no_members apart))

  alone : (showing : Showing) (fields : Fields) (values : List Value) (held so_far : Members) → AreNamedApart fields → IsTrue (fields_fit fields values) → HoldsAll showing fields values held
      → fields_alone fields (object held) so_far ≡ with_fields (wordless showing) fields values so_far
  alone showing no_fields values held so_far apart fit holds = refl
  alone showing (field name form more) [] held so_far apart fit holds = absurd (cc)
  alone showing (field name form more) (value ∷ values) held so_far apart fit holds =
      let key : List ℕ = encode_utf8_all name in
      let p = and_parts (fits form value) (fields_fit more values) fit in
      let plain : Data = json_of (wordless showing) (showing.digits key) form value in
      let here : option_map (without_words form) (get_member key held) ≡ Some plain =
      ap (option_map (without_words form)) holds.0 ∙ ap (λ (d : Data). Some d) (words_beside showing (showing.digits key) form value apart.1 p.0) in
      ap (λ (found : Option Data). fields_alone more (object held) (put_found key found so_far)) here
      ∙ alone showing more values held (put key plain so_far) apart.2 p.1 holds.1
      ∙ ap (with_fields (wordless showing) more values) (sym (with_no_word showing key form value (put key plain so_far)))
