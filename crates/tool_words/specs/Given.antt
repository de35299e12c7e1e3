-- Which options the words give, and with which values.
use Rattle.std.specs.Prelude.{ℕ, Bool, true, false, List, Option, Some, find, option_and_then}
use Rattle.std.specs.Str.{bytes_eq}
use Rattle.clap.specs.Walk.{Row, all_of, first_of}
use Rattle.clap.specs.declared.parser.matches.ValueSource.{ValueSource}
use Rattle.clap.specs.declared.parser.matches.ValueSource.TheVariants.{CommandLine}
use Rattle.tool_words.specs.Spelling.{Spelling}

-- a value comes from the words, and is no default of clap's
abbrev pub is_from_words : Option ValueSource → Bool
is_from_words (Some CommandLine) = true
is_from_words _ = false

-- where the value of this name comes from
abbrev pub source_of : List ℕ → List Row → Option ValueSource
source_of name rows = option_and_then (λ row. row.source) (find (λ row. bytes_eq row.id name) rows)

-- the words give the option
unfoldable pub is_given : {O : Type 0} → (O → Spelling) → List Row → O → Bool
is_given spelling rows option = is_from_words (source_of (spelling option).name rows)

-- the value that the words give to the option
unfoldable pub value_given : {O : Type 0} → (O → Spelling) → List Row → O → Option (List ℕ)
value_given spelling rows option = first_of (spelling option).name rows

-- the word of this name that stands besides the options
unfoldable pub word_given : List ℕ → List Row → Option (List ℕ)
word_given name rows = first_of name rows

-- those of this name, in their order
unfoldable pub words_given : List ℕ → List Row → Option (List (List ℕ))
words_given name rows = all_of name rows
