-- Values that JSON gives in two forms of libqmi's descriptions, and what it refuses.
-- Source: `Info` of Verify PIN in libqmi's data/qmi-service-uim.json, a sequence of a `guint8` and a `string`; `Raw Message Data` of Raw Send in
-- data/qmi-service-wms.json, an array of `guint8` with a count of two bytes.
use Rattle.std.specs.Prelude.{◌≡◌, ℕ, [], ◌∷◌, codes, Ok, Err}
use Rattle.serde_json.specs.Data.{unsigned as natural, Data, number as numeral, string as quoted, array as listed, object, no_items, item, no_members, member}
use Rattle.qmi_shapes.specs.declared.shape.Prefix.TheVariants.{Counted}
use Rattle.qmi_shapes.specs.Form.{Form, unsigned, string, array, sequence, no_fields, field}
use Rattle.qmi_values.specs.Value.{number, text, members, values_of}
use Rattle.json_values.specs.declared.path.Step.TheVariants.{Member}
use Rattle.json_values.specs.Given.{given}

abbrev pub pin_form : Form
pin_form = sequence (field (codes "PIN ID") (unsigned 1) (field (codes "PIN Value") (string (Counted 1)) no_fields))

-- {"PIN ID": ID, "PIN Value": "1234"}
abbrev pub pin_json : ℕ → Data
pin_json id = object (member (codes "PIN ID") (numeral (natural id)) (member (codes "PIN Value") (quoted (codes "1234")) no_members))

abbrev pub GivesPin : Type 0
GivesPin = given pin_form (pin_json 1) ≡ Ok (members (values_of (number 1 ∷ text (codes "1234") ∷ [])))

-- 256 has no byte
abbrev pub RefusesWideNumber : Type 0
RefusesWideNumber = given pin_form (pin_json 256) ≡ Err (Member (codes "PIN ID") ∷ [])

abbrev pub bytes_form : Form
bytes_form = array (Counted 2) (unsigned 1)

-- "0aFF", and [10, 255]
abbrev pub GivesBytesAlike : Type 0
GivesBytesAlike = given bytes_form (quoted (codes "0aFF")) ≡ given bytes_form (listed (item (numeral (natural 10)) (item (numeral (natural 255)) no_items)))
