-- The characters that bytes spell in UTF-16 are told by their text in UTF-8.
use Rattle.std.proofs.Common.{◌≡◌, ℕ, zero, suc, ◌<◌, nat_le, nat_lt, Bool, true, false, ◌&&◌, List, [], ◌∷◌, Option, Some, None, chars, encode_utf8_all, refl, sym, ap, ◌∙◌, arith, if◌then◌else◌}
use Rattle.std.proofs.Math.Utf8.{scalar, scalars}
use Rattle.std.proofs.lemmas.Bool.Decides.{nat_tests}
use Rattle.std.proofs.lemmas.Str.{chars-encodes}
use Rattle.std.specs.Char.Utf16.{utf16_chars, is_high_surrogate, is_low_surrogate, surrogate_pair_char, lone_unit_char}
use Rattle.framing.specs.Framing.{AreBytes}
use Rattle.kit_bytes.specs.Utf16.{leading_chars, units_of, utf16_text}

abbrev AreUnits : List ℕ → Type 0
AreUnits [] = Unit {0}
AreUnits (unit ∷ units) = (unit < 65536) × AreUnits units

are_units : (bytes : List ℕ) → AreBytes bytes → AreUnits (units_of bytes)
are_units [] are = tt
are_units (byte ∷ []) are = tt
are_units (low ∷ high ∷ bytes) are =
    let one = are zero in
    let other = are (suc zero) in
    (omega (arith, one, other), are_units bytes (λ at. are (suc (suc at))))

single : (unit : ℕ) → unit < 65536 → (nat_le 0xD800 unit && nat_lt unit 0xE000) ≡ false → scalar unit ≡ true
single unit less is = grind (arith, nat_tests, less, is)

paired : (high low : ℕ) → (is_high_surrogate high && is_low_surrogate low) ≡ true → scalar (surrogate_pair_char high low) ≡ true
paired high low is = grind (arith, nat_tests, is)

lone : (unit : ℕ) (rest : List (Option ℕ)) → unit < 65536 → scalars (leading_chars rest) ≡ true → scalars (leading_chars (lone_unit_char unit ∷ rest)) ≡ true
lone unit rest less more = by (nat_le 0xD800 unit && nat_lt unit 0xE000) refl
  where
    by : (b : Bool) → (nat_le 0xD800 unit && nat_lt unit 0xE000) ≡ b → scalars (leading_chars ((if b then None else Some unit) ∷ rest)) ≡ true
    by true is = refl
    by false is = rw (single unit less is, more) refl

in_pair : (high low : ℕ) (both alone : List (Option ℕ)) (b : Bool) → (is_high_surrogate high && is_low_surrogate low) ≡ b → high < 65536 → scalars (leading_chars both) ≡ true → scalars (leading_chars alone) ≡ true
    → scalars (leading_chars (if b then Some (surrogate_pair_char high low) ∷ both else lone_unit_char high ∷ alone)) ≡ true
in_pair high low both alone true is less one other = rw (paired high low is, one) refl
in_pair high low both alone false is less one other = lone high alone less other

spelled : (units : List ℕ) → AreUnits units → scalars (leading_chars (utf16_chars units)) ≡ true
unfolding utf16_chars
spelled [] are = refl
spelled (unit ∷ []) are = lone unit [] are.0 refl
spelled (unit ∷ next ∷ units) are =
    in_pair unit next (utf16_chars units) (utf16_chars (next ∷ units)) (is_high_surrogate unit && is_low_surrogate next) refl are.0 (spelled units are.1.1) (spelled (next ∷ units) are.1)

pub text_scalars : (bytes : List ℕ) → AreBytes bytes → scalars (utf16_text bytes) ≡ true
text_scalars bytes are = spelled (units_of bytes) (are_units bytes are)

pub chars_tell : (a b : List ℕ) → scalars a ≡ true → scalars b ≡ true → encode_utf8_all a ≡ encode_utf8_all b → a ≡ b
chars_tell a b are they same = sym (chars-encodes a are) ∙ ap chars same ∙ chars-encodes b they
