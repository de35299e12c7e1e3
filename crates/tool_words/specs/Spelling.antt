-- How the words spell an option.
use Rattle.std.specs.Prelude.{ℕ, Bool, true, false, List, Option, Some, None}
use Rattle.tool_words.specs.declared.options.OptionSpelling.{OptionSpelling}

-- an option's name behind two dashes, its letter behind one, and whether a value follows
pub record Spelling : Type 0 where
  pub name : List ℕ
  pub letter : Option ℕ
  pub takes_value : Bool

abbrev pub flag : List ℕ → Spelling
flag name = record { name = name; letter = None; takes_value = false }

abbrev pub valued : List ℕ → Spelling
valued name = record { name = name; letter = None; takes_value = true }

-- the same option, which has a letter too
abbrev pub or_letter : ℕ → Spelling → Spelling
or_letter letter spelling = record spelling { letter = Some letter }

-- what the code's spelling says
abbrev pub spelled : OptionSpelling → Spelling
spelled spelling = record { name = spelling.name.now; letter = spelling.letter; takes_value = spelling.takes_value }
