-- Laws of spellings.
use Rattle.std.specs.Prelude.{◌≡◌, ◌≢◌, ℕ, List}
use Rattle.qmi_shapes.specs.Form.{Form}
use Rattle.qmi_shapes.specs.WellMade.{IsPart, IsWellMade}
use Rattle.qmi_values.specs.Value.{Value}
use Rattle.qmi_values.specs.Spelling.{Spells}
use Rattle.qmi_values.specs.Breaking.{BreaksOffAt, GoesOnAt}
use Rattle.qmi_values.specs.Decoding.{Refuses}
use Rattle.qmi_values.specs.declared.fault.ValFault.{ValFault}
use Rattle.qmi_values.specs.declared.fault.ValFault.TheVariants.{OutOfMemory}

-- a value has at most one spelling
abbrev pub HasOneSpelling : Type 0
HasOneSpelling = (form : Form) (value : Value) (a b : List ℕ) → IsWellMade form → Spells form value a → Spells form value b → a ≡ b

-- bytes spell at most one value
abbrev pub SpellsOneValue : Type 0
SpellsOneValue = (form : Form) (v w : Value) (bytes : List ℕ) → IsWellMade form → Spells form v bytes → Spells form w bytes → v ≡ w

-- bytes that break off spell no value
abbrev pub BrokenSpellNothing : Type 0
BrokenSpellNothing = (form : Form) (bytes : List ℕ) (place : ℕ) → IsWellMade form → BreaksOffAt form bytes place → (value : Value) → Spells form value bytes → ⊥

-- bytes with more behind a spelling spell no value, unless the form is a text that is all the bytes
abbrev pub LongerSpellNothing : Type 0
LongerSpellNothing = (form : Form) (bytes : List ℕ) (place : ℕ) → IsPart form → GoesOnAt form bytes place → (value : Value) → Spells form value bytes → ⊥

-- bytes are refused for one reason, and at one place
abbrev pub HasOneFault : Type 0
HasOneFault = (form : Form) (bytes : List ℕ) (a b : ValFault) → IsWellMade form → a ≢ OutOfMemory → b ≢ OutOfMemory → Refuses form bytes a → Refuses form bytes b → a ≡ b
