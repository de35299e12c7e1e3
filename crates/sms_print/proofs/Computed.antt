-- What computes the text of literal messages, and when a text is empty.
use Rattle.std.proofs.Common.{◌≡◌, ℕ, ◌==◌, true, List, [], ◌∷◌, length, refl, arith, eqb-true, encode_utf8_all}
use Rattle.std.specs.Prelude.{⊤}
use Rattle.std.specs.Char.{encode_utf8}
use Rattle.std.specs.Fmt.{digits}
use Rattle.std.specs.Str.{chars}
use Rattle.std.proofs.lemmas.Str.{encodes_same}
use Rattle.print_text.specs.Lines.{front, line}

unfoldable pub computed : ⊤
unfolding digits chars encode_utf8 front line
computed = tt

no_bytes : (bytes : List ℕ) → (length bytes == 0) ≡ true → bytes ≡ []
no_bytes [] is = refl
no_bytes (byte ∷ bytes) is = let none = eqb-true (length (byte ∷ bytes)) 0 is in absurd (omega (arith, none))

pub no_chars : (text : List ℕ) → (length (encode_utf8_all text) == 0) ≡ true → text ≡ []
no_chars text is = encodes_same text [] (no_bytes (encode_utf8_all text) is)
