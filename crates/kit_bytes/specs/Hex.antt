-- Bytes as the documents of protocols write them: pairs of hexadecimal digits with a blank between them.
use Rattle.std.specs.Prelude.{ℕ, ◌+◌, ◌-◌, ◌*◌, nat_lt, if◌then◌else◌, List, [], ◌∷◌}

abbrev pub digit : ℕ → ℕ
digit code = if nat_lt code 65 then code - 48 else code - 55

abbrev pub byte : ℕ → ℕ → ℕ
byte high low = digit high * 16 + digit low

abbrev pub hex : List ℕ → List ℕ
hex [] = []
hex (high ∷ []) = []
hex (high ∷ low ∷ []) = byte high low ∷ []
hex (high ∷ low ∷ blank ∷ codes) = byte high low ∷ hex codes
