-- The texts of numbers, of bytes, of texts and of addresses.
use Rattle.std.specs.Prelude.{ℕ, ◌/◌, ◌%◌, ◌==◌, ◌&&◌, not, nat_le, Bool, List, [], ◌∷◌, ◌++◌, Option, Some, None, slice_index, codes, decimal, encode_utf8_all, if◌then◌else◌}
use Rattle.std.specs.List.{flat_map}
use Rattle.std.specs.Char.Escape.{escape_unicode}

abbrev pub in_parentheses : Option (List ℕ) → List ℕ
in_parentheses None = []
in_parentheses (Some word) = codes " (" ++ word ++ codes ")"

-- a number with its word
unfoldable pub worded : ℕ → Option (List ℕ) → List ℕ
worded n word = decimal n ++ in_parentheses word

-- a byte as two of sixteen digits
abbrev pub pair_of : List ℕ → ℕ → List ℕ
pair_of digits byte = slice_index digits (byte / 16) ∷ slice_index digits (byte % 16) ∷ []

-- a byte as two hexadecimal digits in upper case
abbrev pub hex_pair : ℕ → List ℕ
hex_pair byte = pair_of (codes "0123456789ABCDEF") byte

-- a byte as two hexadecimal digits in lower case
abbrev pub lower_hex_pair : ℕ → List ℕ
lower_hex_pair byte = pair_of (codes "0123456789abcdef") byte

-- the code of printable ASCII but the backslash
abbrev pub is_plain : ℕ → Bool
is_plain code = nat_le 32 code && nat_le code 126 && not (code == 92)

-- a character of a text: printable ASCII but the backslash stands as it is, and all others as Rust's `char::escape_unicode` writes them, as `\u{e9}`
abbrev pub escaped : ℕ → List ℕ
escaped char = if is_plain char then char ∷ [] else escape_unicode char

-- the characters of a text, in UTF-8
abbrev pub escaped_text : List ℕ → List ℕ
escaped_text chars = encode_utf8_all (flat_map escaped chars)

-- the bytes of an IPv4 address in decimal, with dots between
unfoldable pub ipv4_text : List ℕ → List ℕ
ipv4_text [] = []
ipv4_text (byte ∷ bytes) = decimal byte ++ flat_map (λ next. codes "." ++ decimal next) bytes
