-- The texts of a value that bytes spell are of bytes.
use Rattle.std.proofs.Common.{ℕ, List, length, subst}
use Rattle.std.proofs.lemmas.Bool.{and_parts}
use Rattle.std.specs.Prelude.{IsTrue}
use Rattle.std.specs.List.{flat_map, list_all}
use Rattle.framing.specs.Framing.{AreBytes}
use Rattle.qmi_shapes.specs.Form.{Form, unsigned, signed, string, array, sequence, Fields, no_fields, field}
use Rattle.qmi_values.specs.Value.{Value, number, integer, text, elements, members, Values, no_values, first, list_of}
use Rattle.tlv_values.specs.Spelling.{count_fits, fits, fields_fit, count_bytes, spelling, fields_spelling}
use Rattle.tlv_values.proofs.Spelled.{only_these}
use Rattle.tlv_values.proofs.Readings.{bytes-front, bytes-back, read-true}
use Rattle.json_values.specs.Apart.{HasBytes, EachHasBytes}
use Rattle.json_values.specs.JsonLaws.{GivesBackWhatIsRead}
use Rattle.json_values.proofs.Back.{gives_back}

module _ (element : Form) (good : (v : Value) → IsTrue (fits element v) → AreBytes (spelling element v) → HasBytes v) where
  each_of_bytes : (values : Values) → IsTrue (list_all (fits element) (list_of values)) → AreBytes (flat_map (spelling element) (list_of values)) → EachHasBytes values
  each_of_bytes no_values all are = tt
  each_of_bytes (first value more) all are =
      let p = and_parts (fits element value) (list_all (fits element) (list_of more)) all in
      let here : List ℕ = spelling element value in
      let later : List ℕ = flat_map (spelling element) (list_of more) in
      (good value p.0 (bytes-front here later are), each_of_bytes more p.1 (bytes-back here later are))

mutual
  of_bytes : (form : Form) (value : Value) → IsTrue (fits form value) → AreBytes (spelling form value) → HasBytes value
  of_bytes form (number n) fit are = tt
  of_bytes form (integer z) fit are = tt
  of_bytes (string prefix) (text octets) fit are = bytes-back (count_bytes prefix (length octets)) octets are
  of_bytes (unsigned size) (text _) fit are = absurd (cc)
  of_bytes (signed size) (text _) fit are = absurd (cc)
  of_bytes (array prefix element) (text _) fit are = absurd (cc)
  of_bytes (sequence _) (text _) fit are = absurd (cc)
  of_bytes (array prefix element) (elements values) fit are =
      let all = (and_parts (count_fits prefix (length (list_of values))) (list_all (fits element) (list_of values)) fit).1 in
      each_of_bytes element (of_bytes element) values all (bytes-back (count_bytes prefix (length (list_of values))) (flat_map (spelling element) (list_of values)) are)
  of_bytes (unsigned size) (elements _) fit are = absurd (cc)
  of_bytes (signed size) (elements _) fit are = absurd (cc)
  of_bytes (string prefix) (elements _) fit are = absurd (cc)
  of_bytes (sequence _) (elements _) fit are = absurd (cc)
  of_bytes (sequence fields) (members values) fit are = fields_of_bytes fields values fit are
  of_bytes (unsigned size) (members _) fit are = absurd (cc)
  of_bytes (signed size) (members _) fit are = absurd (cc)
  of_bytes (string prefix) (members _) fit are = absurd (cc)
  of_bytes (array prefix element) (members _) fit are = absurd (cc)

  fields_of_bytes : (fields : Fields) (values : Values) → IsTrue (fields_fit fields (list_of values)) → AreBytes (fields_spelling fields (list_of values)) → EachHasBytes values
  fields_of_bytes fields no_values fit are = tt
  fields_of_bytes no_fields (first value more) fit are = absurd (cc)
  fields_of_bytes (field name form more) (first value values) fit are =
      let p = and_parts (fits form value) (fields_fit more (list_of values)) fit in
      let here : List ℕ = spelling form value in
      let later : List ℕ = fields_spelling more (list_of values) in
      (of_bytes form value p.0 (bytes-front here later are), fields_of_bytes more values p.1 (bytes-back here later are))

pub gives_back_read : GivesBackWhatIsRead
gives_back_read showing digits form value bytes well apart are is =
    let p = only_these form value bytes well (read-true form value bytes are is) in
    gives_back showing digits form value well apart p.0 (of_bytes form value p.0 (subst AreBytes p.1 are))
