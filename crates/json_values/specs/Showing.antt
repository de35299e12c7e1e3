-- What a printed text shows of the fields of a name: the words for their numbers, and the lists whose bytes are hexadecimal digits.
use Rattle.std.specs.Prelude.{ℕ, Bool, false, List, Option, Some, None, if◌then◌else◌}
use Rattle.qmicli_print.specs.declared.shown.Shown.{Shown}
use Rattle.qmicli_print.specs.Words.{is_address, is_bytes, shown_as, word_of}
use Rattle.qmicli_print.specs.Texts.{address_text}

-- by a name in UTF-8
pub record Showing : Type 0 where
  pub word : List ℕ → ℕ → Option (List ℕ)
  pub digits : List ℕ → Bool

-- the same without words
abbrev pub wordless : Showing → Showing
wordless showing = record { word = λ name n. None; digits = showing.digits }

-- what `qmicli` prints behind a number or in its place: a word, or an IPv4 address
abbrev pub word_shown : Shown → ℕ → Option (List ℕ)
word_shown shown n = if is_address shown then Some (address_text n) else word_of shown n

abbrev pub by_qmicli : Showing
by_qmicli = record { word = λ name n. word_shown (shown_as name) n; digits = λ name. is_bytes (shown_as name) }

-- no words, and lists of bytes with their elements
abbrev pub plainly : Showing
plainly = record { word = λ name n. None; digits = λ name. false }
