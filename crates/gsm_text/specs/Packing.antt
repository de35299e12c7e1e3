-- Codes of 7 bits, packed into octets.
-- Source: 3GPP TS 23.038, section 6.1.2.1.1: the lowest bits stand first, in the codes and in the octets, so both are the digits of one number.
use Rattle.std.specs.Prelude.{◌≡◌, ℕ, zero, suc, ◌+◌, ◌*◌, ◌/◌, ◌%◌, ◌^◌, ◌<◌, ◌≤◌, List, [], ◌∷◌, length, Result, Ok, Err}
use Rattle.gsm_text.specs.declared.packing.UnpackFault.{UnpackFault}
use Rattle.gsm_text.specs.declared.packing.UnpackFault.TheVariants.{ShortBits, OutOfMemory}

-- the number that has these digits in a base, the lowest first
abbrev pub number_of : (base : ℕ) → List ℕ → ℕ
number_of base [] = 0
number_of base (digit ∷ digits) = digit + base * number_of base digits

-- so many digits of a number in a base, the lowest first
abbrev pub digits_of : (base count number : ℕ) → List ℕ
digits_of base zero number = []
digits_of base (suc count) number = number % base ∷ digits_of base count (number / base)

-- how many octets have so many bits
abbrev pub octets_for : (bits : ℕ) → ℕ
octets_for bits = (bits + 7) / 8

-- the octets of codes behind so many zero bits
abbrev pub pack : (codes : List ℕ) (fill : ℕ) → List ℕ
pack codes fill = digits_of 256 (octets_for (fill + 7 * length codes)) (2 ^ fill * number_of 128 codes)

-- the number of octets without so many of their lowest bits
abbrev pub from_bit : (bytes : List ℕ) (bit : ℕ) → ℕ
from_bit bytes bit = number_of 256 bytes / 2 ^ bit

-- so many codes of octets, behind so many bits
abbrev pub unpack : (bytes : List ℕ) (fill count : ℕ) → List ℕ
unpack bytes fill count = digits_of 128 count (from_bit bytes fill)

abbrev pub Unpacks : (bytes : List ℕ) (fill count : ℕ) → Result (List ℕ) UnpackFault → Type 0
Unpacks bytes fill count (Ok codes) = (fill + 7 * count ≤ 8 * length bytes) × (codes ≡ unpack bytes fill count)
Unpacks bytes fill count (Err ShortBits) = 8 * length bytes < fill + 7 * count
Unpacks bytes fill count (Err OutOfMemory) = Unit {0}
