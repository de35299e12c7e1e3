-- The texts of single values.
use Rattle.std.specs.Prelude.{ℕ, ◌/◌, ◌%◌, List, [], ◌∷◌, ◌++◌, codes, if◌then◌else◌}
use Rattle.print_text.specs.Texts.{worded, hex_pair, is_plain, ipv4_text}
use Rattle.print_text.specs.Words.{shown_word}
use Rattle.print_text.specs.declared.wording.Wording.{Wording}
use Rattle.qmi_values.specs.Value.{Value, number}
use Rattle.qmicli_print.specs.declared.shown.Shown.{Shown}
use Rattle.qmicli_print.specs.Words.{is_address, word_of}

-- a byte of a text: printable ASCII but the backslash stands as it is
abbrev pub escaped : ℕ → List ℕ
escaped byte = if is_plain byte then byte ∷ [] else codes "\\x" ++ hex_pair byte

-- a number of a list of bytes
abbrev pub hex_of : Value → List ℕ
hex_of (number n) = hex_pair (n % 256)
hex_of _ = []

-- a number as an IPv4 address, the top byte first
unfoldable pub address_text : ℕ → List ℕ
address_text n = ipv4_text (n / 16777216 % 256 ∷ n / 65536 % 256 ∷ n / 256 % 256 ∷ n % 256 ∷ [])

-- a number as it is shown
abbrev pub number_text : Wording → Shown → ℕ → List ℕ
number_text wording shown n = if is_address shown then address_text n else worded n (shown_word wording (word_of shown n))
