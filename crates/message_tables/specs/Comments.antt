-- Comments: whole lines, which are taken out before the rest is read as JSON.
-- Source: read_json_file in libqmi's build-aux/qmi-codegen/utils.py.
use Rattle.std.specs.Prelude.{ℕ, ◌==◌, ◌||◌, not, nat_eq, List, [], ◌∷◌, Bool, codes, filter, if◌then◌else◌}
use Rattle.std.specs.List.{concat, starts_with}

-- the lines with one byte more at the front of the first
abbrev pub begun : ℕ → List (List ℕ) → List (List ℕ)
begun byte [] = (byte ∷ []) ∷ []
begun byte (line ∷ lines) = (byte ∷ line) ∷ lines

-- the lines of a text, each with the line feed that ends it
abbrev pub lines_of : List ℕ → List (List ℕ)
lines_of [] = []
lines_of (byte ∷ bytes) = if byte == 10 then (byte ∷ []) ∷ lines_of bytes else begun byte (lines_of bytes)

abbrev pub without_blanks : List ℕ → List ℕ
without_blanks [] = []
without_blanks (byte ∷ bytes) = if byte == 32 || byte == 9 then without_blanks bytes else byte ∷ bytes

-- its first bytes behind blanks are two slashes
abbrev pub is_comment : List ℕ → Bool
is_comment line = starts_with nat_eq (without_blanks line) (codes "//")

-- the lines of a text that aren't comments
abbrev pub json_text : List ℕ → List ℕ
json_text text = concat (filter (λ line. not (is_comment line)) (lines_of text))
