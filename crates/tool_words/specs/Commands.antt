-- What the tables of commands share: a line for each command.
use Rattle.std.specs.Prelude.{List, ℕ, Option, Some, option_and_then, option_map}
use Rattle.tool_words.specs.Spelling.{Spelling, flag, valued}

-- how the words spell a command, and the request that it gives, if its value reads
pub record CommandLine (R : Type 0) : Type 0 where
  pub spelling : Spelling
  pub request : Option (List ℕ) → Option R

abbrev pub plain : {R : Type 0} → List ℕ → R → CommandLine R
plain name request = record { spelling = flag name; request = λ _. Some request }

abbrev pub with_value : {R V : Type 0} → List ℕ → (List ℕ → Option V) → (V → R) → CommandLine R
with_value name value_in request = record { spelling = valued name; request = λ value. option_map request (option_and_then value_in value) }
