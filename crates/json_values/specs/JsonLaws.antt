-- Laws of the JSON of values.
use Rattle.std.specs.Prelude.{◌≡◌, ◌≤◌, ℕ, List, Bool, IsTrue, Some, Ok}
use Rattle.framing.specs.Framing.{AreBytes}
use Rattle.serde_json.specs.Data.{depth}
use Rattle.qmi_shapes.specs.Form.{Form}
use Rattle.qmi_shapes.specs.WellMade.{IsWellMade}
use Rattle.qmi_values.specs.Value.{Value}
use Rattle.tlv_values.specs.Spelling.{fits}
use Rattle.tlv_values.specs.Reading.{reading}
use Rattle.message_tables.specs.Tlvs.{nesting}
use Rattle.json_values.specs.Given.{given}
use Rattle.json_values.specs.Showing.{Showing, wordless}
use Rattle.json_values.specs.Json.{json_of}
use Rattle.json_values.specs.Words.{without_words}
use Rattle.json_values.specs.Apart.{HasNamesApart, HasBytes}

-- the JSON of a value that fits gives the value back
abbrev pub GivesBack : Type 0
GivesBack =
    (showing : Showing) (digits : Bool) (form : Form) (value : Value) → IsWellMade form → HasNamesApart form → IsTrue (fits form value) → HasBytes value
    → given form (json_of (wordless showing) digits form value) ≡ Ok value

-- so does the JSON of a value that bytes spell
abbrev pub GivesBackWhatIsRead : Type 0
GivesBackWhatIsRead =
    (showing : Showing) (digits : Bool) (form : Form) (value : Value) (bytes : List ℕ) → IsWellMade form → HasNamesApart form → AreBytes bytes → reading form bytes ≡ Some value
    → given form (json_of (wordless showing) digits form value) ≡ Ok value

-- without its words it is the JSON that has none
abbrev pub WordsStandBeside : Type 0
WordsStandBeside =
    (showing : Showing) (digits : Bool) (form : Form) (value : Value) → HasNamesApart form → IsTrue (fits form value)
    → without_words form (json_of showing digits form value) ≡ json_of (wordless showing) digits form value

-- it nests no deeper than the form
abbrev pub NestsAsItsForm : Type 0
NestsAsItsForm = (showing : Showing) (digits : Bool) (form : Form) (value : Value) → depth (json_of showing digits form value) ≤ nesting form
