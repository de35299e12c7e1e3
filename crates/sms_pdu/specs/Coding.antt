-- How a message's data are coded.
-- Source: 3GPP TS 23.038, section 4. Compressed data, and data of 8 bits, are octets.
use Rattle.std.specs.Prelude.{ℕ, ◌+◌, ◌*◌, ◌/◌, ◌%◌, ◌==◌, nat_le, Bool, ◌&&◌, ◌||◌, if◌then◌else◌}

-- groups of the coding octet's bits, as numbers: bits 7 to 4, bits 3 and 2, and whether bits 7 and 5 are 0
abbrev pub group : (coding : ℕ) → ℕ
group coding = coding / 16

abbrev pub alphabet : (coding : ℕ) → ℕ
alphabet coding = coding / 4 % 4

abbrev pub is_plain : (coding : ℕ) → Bool
is_plain coding = coding / 128 == 0 && coding / 32 % 2 == 0

-- codes of the default alphabet
abbrev pub has_codes : (coding : ℕ) → Bool
has_codes coding =
    (is_plain coding && (alphabet coding == 0 || alphabet coding == 3))
    || (nat_le 8 (group coding) && nat_le (group coding) 13)
    || (group coding == 15 && coding / 4 % 2 == 0)

abbrev pub has_ucs2 : (coding : ℕ) → Bool
has_ucs2 coding = (is_plain coding && alphabet coding == 2) || group coding == 14

-- how many octets so many codes or octets take
abbrev pub octets_of : (coding count : ℕ) → ℕ
octets_of coding count = if has_codes coding then (7 * count + 7) / 8 else count
