-- What the values of a buffer's fields say, by the places of the fields, which are counted from 0, and values of answers.
use Rattle.std.specs.Prelude.{ℕ, List, [], get_or, length, replicate, unwrap_or}
use Rattle.mbim_fields.specs.Value.{Value, number, absent, elements, members, values_of, as_number, as_octets, as_text}

-- ---- of a command; what is no such value is 0 or empty ----

abbrev pub value_at : List Value → ℕ → Value
value_at values place = get_or values place absent

abbrev pub number_of : Value → ℕ
number_of value = unwrap_or (as_number value) 0

abbrev pub number_at : List Value → ℕ → ℕ
number_at values place = number_of (value_at values place)

abbrev pub octets_at : List Value → ℕ → List ℕ
octets_at values place = unwrap_or (as_octets (value_at values place)) []

abbrev pub text_at : List Value → ℕ → List ℕ
text_at values place = unwrap_or (as_text (value_at values place)) []

-- ---- of an answer ----

abbrev pub zero : Value
zero = number 0

-- so many fields that say nothing
abbrev pub zeros : (count : ℕ) → List Value
zeros count = replicate count zero

abbrev pub count_of : List Value → Value
count_of values = number (length values)

abbrev pub list : List Value → Value
list values = elements (values_of values)

abbrev pub structure : List Value → Value
structure values = members (values_of values)
