-- Numbers in bytes: little endian, and two's complement where they are signed.
use Rattle.std.specs.Prelude.{◌≡◌, ℕ, ℤ, pos, ◌-ℤ◌, ◌+◌, ◌-◌, ◌*◌, ◌^◌, ◌<◌, nat_lt, List, [], ◌∷◌, length, slice_index, if◌then◌else◌}

abbrev pub little_endian : List ℕ → ℕ
little_endian [] = 0
little_endian (byte ∷ bytes) = byte + 256 * little_endian bytes

-- the signed number whose bits in so many bytes are those of a number
abbrev pub twos_complement : ℕ → ℕ → ℤ
twos_complement size number = if nat_lt number (2 ^ (8 * size - 1)) then pos number else pos number -ℤ pos (2 ^ (8 * size))

pub record AreBytes (size : ℕ) (bytes : List ℕ) : Type 0 where
  pub count : length bytes ≡ size
  pub each : (at : ℕ) → slice_index bytes at < 256

-- so many bytes whose number this is
pub record IsUnsigned (size number : ℕ) (bytes : List ℕ) : Type 0 where
  pub are : AreBytes size bytes
  pub is : number ≡ little_endian bytes

pub record IsSigned (size : ℕ) (number : ℤ) (bytes : List ℕ) : Type 0 where
  pub are : AreBytes size bytes
  pub is : number ≡ twos_complement size (little_endian bytes)
