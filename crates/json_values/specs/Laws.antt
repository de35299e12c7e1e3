-- Laws of the values that JSON gives.
use Rattle.std.specs.Prelude.{◌≡◌, Ok, IsTrue}
use Rattle.serde_json.specs.Data.{Data}
use Rattle.qmi_shapes.specs.Form.{Form}
use Rattle.qmi_values.specs.Value.{Value}
use Rattle.tlv_values.specs.Spelling.{fits}
use Rattle.json_values.specs.Given.{given}

-- a value that JSON gives in a form is one that the form spells
abbrev pub GivesWhatFits : Type 0
GivesWhatFits = (form : Form) (json : Data) (value : Value) → given form json ≡ Ok value → IsTrue (fits form value)
