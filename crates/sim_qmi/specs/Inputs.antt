-- What the value of a request's TLV says.
use Rattle.std.specs.Prelude.{ℕ, ◌^◌, nat_lt, Option, Some, None, option_and_then, if◌then◌else◌}
use Rattle.qmi_values.specs.Value.{Value, number_in, members, first, no_values}

abbrev pub if_below : (limit number : ℕ) → Option ℕ
if_below limit number = if nat_lt number limit then Some number else None

-- a number of 8 bits
abbrev pub byte_in : Value → Option ℕ
byte_in value = option_and_then (if_below (2 ^ 8)) (number_in value)

-- a number of 32 bits
abbrev pub word_in : Value → Option ℕ
word_in value = option_and_then (if_below (2 ^ 32)) (number_in value)

-- the first and the second of two fields
abbrev pub first_in : Value → Option Value
first_in (members (first a (first b no_values))) = Some a
first_in _ = None

abbrev pub second_in : Value → Option Value
second_in (members (first a (first b no_values))) = Some b
second_in _ = None
