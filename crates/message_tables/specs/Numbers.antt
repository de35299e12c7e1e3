-- Numbers in descriptions: texts of digits, and JSON's integers.
use Rattle.std.specs.Prelude.{ℕ, ◌+◌, ◌-◌, ◌*◌, ◌==◌, ◌&&◌, not, nat_eq, nat_lt, nat_le, List, [], ◌∷◌, length, drop, slice_index, Option, Some, None, option_and_then, codes, if◌then◌else◌}
use Rattle.std.specs.List.{starts_with}
use Rattle.serde_json.specs.Data.{Data}
use Rattle.serde_json.specs.Find.{as_str, as_number, as_u64}
use Rattle.message_tables.specs.declared.fault.MemberName.TheVariants.{Id}
use Rattle.message_tables.specs.Members.{text_in}

-- a hexadecimal digit in either case
abbrev pub digit_of : ℕ → Option ℕ
digit_of byte =
    if nat_le 48 byte && nat_le byte 57 then Some (byte - 48)
    else if nat_le 97 byte && nat_le byte 102 then Some (byte - 87)
    else if nat_le 65 byte && nat_le byte 70 then Some (byte - 55)
    else None

abbrev pub below : ℕ → ℕ → Option ℕ
below limit number = if nat_lt number limit then Some number else None

-- the number below 65,536 that digits of a base spell behind those that spell another number
abbrev pub spelled_behind : ℕ → ℕ → List ℕ → Option ℕ
spelled_behind base number [] = Some number
spelled_behind base number (digit ∷ digits) =
    option_and_then (λ value. option_and_then (λ more. spelled_behind base more digits) (below 65536 (number * base + value)))
    (option_and_then (below base) (digit_of digit))

-- `0x` and one to four hexadecimal digits
unfoldable pub id_of : List ℕ → Option ℕ
id_of text = if nat_le 3 (length text) && nat_le (length text) 6 && starts_with nat_eq text (codes "0x") then spelled_behind 16 0 (drop 2 text) else None

-- decimal digits, the first of which isn't 0
unfoldable pub decimal_of : List ℕ → Option ℕ
decimal_of text = if nat_le 1 (length text) && not (slice_index text 0 == 48) then spelled_behind 10 0 text else None

abbrev pub integer_of : Option (List ℕ) → Data → Option ℕ
integer_of (Some text) value = decimal_of text
integer_of None value = option_and_then as_u64 (as_number value)

abbrev pub in_range : ℕ → ℕ → Option ℕ
in_range most size = if nat_le 1 size && nat_le size most then Some size else None

-- a number from 1 up to the greatest, as a text of digits or as a number
unfoldable pub size_of : ℕ → Data → Option ℕ
size_of most value = option_and_then (in_range most) (integer_of (as_str value) value)

-- the number that an object's `id` is
unfoldable pub id_in : Data → Option ℕ
id_in entry = option_and_then id_of (text_in Id entry)

-- the type of a TLV, a number of at most 255
unfoldable pub tlv_id_in : Data → Option ℕ
tlv_id_in entry = option_and_then (below 256) (id_in entry)
