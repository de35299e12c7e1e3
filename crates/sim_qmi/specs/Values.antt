-- Values of answers.
use Rattle.std.specs.Prelude.{ℕ, ◌+◌, ◌*◌, ◌%◌, List}
use Rattle.qmi_values.specs.Value.{Value, number, elements, values_of}

abbrev pub list : List Value → Value
list values = elements (values_of values)

-- an IPv4 address as a number, its first byte the highest
abbrev pub address : (a b c d : ℕ) → Value
address a b c d = number (((a * 256 + b) * 256 + c) * 256 + d)

-- the number after this one, of those from 1 to the last in a cycle
abbrev pub number_after : (last n : ℕ) → ℕ
number_after last n = n % last + 1

-- a radio interface: LTE
-- Source: the enum QmiNasRadioInterface in libqmi's src/libqmi-glib/qmi-enums-nas.h.
abbrev pub lte : ℕ
lte = 8

-- the greatest data rates, in bits per second
abbrev pub max_tx : Value
max_tx = number 50000000

abbrev pub max_rx : Value
max_rx = number 100000000
