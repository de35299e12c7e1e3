-- A body split into fragments.
-- Source: the USB-IF MBIM specification 1.0, section 9.2, "MBIM_FRAGMENT_HEADER".
use Rattle.std.specs.Prelude.{ℕ, ◌+◌, ◌-◌, ◌*◌, ◌/◌, ◌%◌, min, max, List, length, take, drop, map}
use Rattle.std.specs.List.{concat, range_with_len}
use Rattle.mbim_frame.specs.Writing.{fragment_text}

-- how many bytes of the body a message of at most `longest` bytes has room for, behind both heads
abbrev pub part_size : (longest : ℕ) → ℕ
part_size longest = longest - 20

-- how many parts of this size a body has, the last with what remains; an empty body has one
abbrev pub part_count : (size length : ℕ) → ℕ
part_count size length = max 1 (length / size + min 1 (length % size))

abbrev pub part_at : (size : ℕ) → (body : List ℕ) → (place : ℕ) → List ℕ
part_at size body place = take size (drop (place * size) body)

abbrev pub piece_at : (kind number size : ℕ) → (body : List ℕ) → (place : ℕ) → List ℕ
piece_at kind number size body place = fragment_text (record { kind = kind; number = number; total = part_count size (length body); current = place }) (part_at size body place)

-- the messages of at most `longest` bytes that carry a body
abbrev pub pieces : (kind number longest : ℕ) → (body : List ℕ) → List (List ℕ)
pieces kind number longest body = map (piece_at kind number (part_size longest) body) (range_with_len 0 (part_count (part_size longest) (length body)))

-- their bytes
abbrev pub split : (kind number longest : ℕ) → (body : List ℕ) → List ℕ
split kind number longest body = concat (pieces kind number longest body)

-- how many bytes they have
abbrev pub split_size : (longest length : ℕ) → ℕ
split_size longest length = length + 20 * part_count (part_size longest) length
