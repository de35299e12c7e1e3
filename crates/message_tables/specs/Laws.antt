-- Laws of the definition.
use Rattle.std.specs.Prelude.{◌≡◌, ℕ, List}
use Rattle.std.specs.List.{concat}
use Rattle.serde_json.specs.Data.{Data}
use Rattle.message_tables.specs.Comments.{lines_of}
use Rattle.message_tables.specs.Definitions.{Names}
use Rattle.message_tables.specs.Forms.{form_of, form_with, element_of, contents_of}

-- an object's form is by its `format`, given what its `array-element` and its `contents` describe
abbrev pub IsByMembers : Type 0
IsByMembers = (names : Names) (entry : Data) → form_of names entry ≡ form_with entry (element_of names entry) (contents_of names entry)

-- the lines of a text are the whole text
abbrev pub AreWholeText : Type 0
AreWholeText = (text : List ℕ) → concat (lines_of text) ≡ text
