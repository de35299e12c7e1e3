-- Finding how a field is shown, and the words for its numbers.
use Rattle.std.specs.Prelude.{ℕ, ◌==◌, List, [], ◌∷◌, Option, Some, None, bytes_eq, if◌then◌else◌}
use Rattle.print_text.specs.declared.wording.Wording.{Wording}
use Rattle.print_text.specs.declared.wording.Wording.TheVariants.{WithWords, NumbersAlone}

-- what a list of names has for a name
abbrev pub by_name : {A : Type 0} → List (List ℕ × A) → A → List ℕ → A
by_name [] otherwise name = otherwise
by_name (row ∷ rows) otherwise name = if bytes_eq name row.0 then row.1 else by_name rows otherwise name

-- the word for a number in a table
abbrev pub word_in : List (ℕ × List ℕ) → ℕ → Option (List ℕ)
word_in [] n = None
word_in (row ∷ rows) n = if n == row.0 then Some row.1 else word_in rows n

-- the word that is shown with a number which has this one
abbrev pub shown_word : Wording → Option (List ℕ) → Option (List ℕ)
shown_word WithWords word = word
shown_word NumbersAlone word = None
