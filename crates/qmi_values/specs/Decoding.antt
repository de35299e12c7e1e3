-- What decoding answers.
use Rattle.std.specs.Prelude.{List, ℕ}
use Rattle.qmi_shapes.specs.Form.{Form}
use Rattle.qmi_values.specs.Value.{Value}
use Rattle.qmi_values.specs.Spelling.{Spells}
use Rattle.qmi_values.specs.Breaking.{BreaksOffAt, GoesOnAt}
use Rattle.qmi_values.specs.declared.fault.ValFault.{ValFault}
use Rattle.qmi_values.specs.declared.fault.ValFault.TheVariants.{Short, Over, OutOfMemory}

-- the bytes spell no value
abbrev pub SpellsNothing : Form → List ℕ → Type 0
SpellsNothing form bytes = (value : Value) → Spells form value bytes → ⊥

-- why bytes aren't the spelling of a value
abbrev pub Refuses : Form → List ℕ → ValFault → Type 0
Refuses form bytes (Short place) = BreaksOffAt form bytes place × SpellsNothing form bytes
Refuses form bytes (Over place) = GoesOnAt form bytes place × SpellsNothing form bytes
Refuses form bytes OutOfMemory = Unit {0}
