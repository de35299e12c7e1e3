-- Laws of values, their spellings and their reading.
use Rattle.std.specs.Prelude.{◌≡◌, ◌↔◌, List, ℕ, Some, IsTrue}
use Rattle.framing.specs.Framing.{AreBytes}
use Rattle.qmi_shapes.specs.Form.{Form}
use Rattle.qmi_shapes.specs.WellMade.{IsWellMade}
use Rattle.qmi_values.specs.Value.{Value}
use Rattle.qmi_values.specs.Spelling.{Spells}
use Rattle.tlv_values.specs.Spelling.{fits, spelling}
use Rattle.tlv_values.specs.Reading.{reading}

-- a value that fits is spelled by its spelling
abbrev pub AreSpelled : Type 0
AreSpelled = (form : Form) (value : Value) → IsWellMade form → IsTrue (fits form value) → Spells form value (spelling form value)

-- only values that fit are spelled, and by nothing but their spellings
abbrev pub OnlyTheseSpell : Type 0
OnlyTheseSpell = (form : Form) (value : Value) (bytes : List ℕ) → IsWellMade form → Spells form value bytes → IsTrue (fits form value) × (bytes ≡ spelling form value)

-- bytes read as the value that they spell
abbrev pub ReadAsSpelled : Type 0
ReadAsSpelled = (form : Form) (value : Value) (bytes : List ℕ) → IsWellMade form → AreBytes bytes → (reading form bytes ≡ Some value) ↔ Spells form value bytes
