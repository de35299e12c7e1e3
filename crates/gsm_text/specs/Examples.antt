-- Examples of texts in the default alphabet. Where a character isn't one of ASCII, its number is that of Unicode's file GSM0338.TXT.
use Rattle.std.specs.Prelude.{◌≡◌, ℕ, List, [], ◌∷◌, ◌++◌, slice_range, codes, Some, None, Err}
use Rattle.kit_bytes.specs.Hex.{hex}
use Rattle.gsm_text.specs.declared.alphabet.TheConstants.{ALPHABET}
use Rattle.gsm_text.specs.declared.codes.CodeFault.TheVariants.{Outside}
use Rattle.gsm_text.specs.declared.packing.UnpackFault.TheVariants.{ShortBits}
use Rattle.gsm_text.specs.Alphabet.{chars_of, codes_of, first_outside, SpellsText}
use Rattle.gsm_text.specs.Packing.{pack, unpack, Unpacks}

pub record TheAlphabet : Type 0 where
  pub row_0 : slice_range ALPHABET 0x00 0x10 ≡ 0x40 ∷ 0xA3 ∷ 0x24 ∷ 0xA5 ∷ 0xE8 ∷ 0xE9 ∷ 0xF9 ∷ 0xEC ∷ 0xF2 ∷ 0xC7 ∷ 0x0A ∷ 0xD8 ∷ 0xF8 ∷ 0x0D ∷ 0xC5 ∷ 0xE5 ∷ []
  pub row_1 : slice_range ALPHABET 0x10 0x20 ≡ 0x394 ∷ 0x5F ∷ 0x3A6 ∷ 0x393 ∷ 0x39B ∷ 0x3A9 ∷ 0x3A0 ∷ 0x3A8 ∷ 0x3A3 ∷ 0x398 ∷ 0x39E ∷ 0x1B ∷ 0xC6 ∷ 0xE6 ∷ 0xDF ∷ 0xC9 ∷ []
  pub marks : slice_range ALPHABET 0x20 0x25 ≡ 0x20 ∷ 0x21 ∷ 0x22 ∷ 0x23 ∷ 0xA4 ∷ []
  pub digits : slice_range ALPHABET 0x25 0x41 ≡ codes "%&'()*+,-./0123456789:;<=>?" ++ 0xA1 ∷ []
  pub capitals : slice_range ALPHABET 0x41 0x61 ≡ codes "ABCDEFGHIJKLMNOPQRSTUVWXYZ" ++ 0xC4 ∷ 0xD6 ∷ 0xD1 ∷ 0xDC ∷ 0xA7 ∷ 0xBF ∷ []
  pub smalls : slice_range ALPHABET 0x61 0x80 ≡ codes "abcdefghijklmnopqrstuvwxyz" ++ 0xE4 ∷ 0xF6 ∷ 0xF1 ∷ 0xFC ∷ 0xE0 ∷ []

-- the characters of the extension table
abbrev pub extended : List ℕ
extended = 0x0C ∷ 0x5E ∷ 0x7B ∷ 0x7D ∷ 0x5C ∷ 0x5B ∷ 0x7E ∷ 0x5D ∷ 0x7C ∷ 0x20AC ∷ []

abbrev pub extended_codes : List ℕ
extended_codes = hex (codes "1B 0A 1B 14 1B 28 1B 29 1B 2F 1B 3C 1B 3D 1B 3E 1B 40 1B 65")

pub record TheExtension : Type 0 where
  pub written : codes_of extended ≡ extended_codes
  pub read : chars_of extended_codes ≡ extended
  pub other : chars_of (hex (codes "1B 61")) ≡ codes "a"
  pub twice : chars_of (hex (codes "1B 1B 61")) ≡ codes " a"
  pub last : chars_of (hex (codes "61 1B")) ≡ codes "a "

-- the letter `ж`, and the escape itself
pub record NoCodes : Type 0 where
  pub letter : first_outside (0x61 ∷ 0x436 ∷ []) ≡ Some 1
  pub escape : first_outside (0x1B ∷ []) ≡ Some 0
  pub none : first_outside (codes "hello") ≡ None
  pub refused : SpellsText (0x61 ∷ 0x436 ∷ []) (Err (Outside 1))

pub record APackedText : Type 0 where
  pub hello : pack (codes "hello") 0 ≡ hex (codes "E8 32 9B FD 06")
  pub unpacked : unpack (hex (codes "E8 32 9B FD 06")) 0 5 ≡ codes "hello"
  pub euro : pack (codes_of (0x20AC ∷ [])) 0 ≡ hex (codes "9B 32")
  pub hi : unpack (hex (codes "C8 34")) 0 2 ≡ codes "Hi"
  pub behind_a_bit : pack (codes "Hi") 1 ≡ hex (codes "90 69")
  pub nothing : pack [] 3 ≡ hex (codes "00")
  pub short : Unpacks (hex (codes "C8")) 0 2 (Err ShortBits)
