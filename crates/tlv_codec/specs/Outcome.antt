-- The Result TLV, type 0x02, which tells how a request ended: a status and an error of two bytes each.
-- Source: the common TLV `Operation Result` in libqmi's data/qmi-common.json.
use Rattle.std.specs.Prelude.{ℕ, Bool, false, ◌==◌, List, length, Option, Some, None, option_and_then, if◌then◌else◌}
use Rattle.kit_bytes.specs.Numbers.{number_at}
use Rattle.tlv_codec.specs.declared.outcome.Outcome.{Outcome}
use Rattle.tlv_codec.specs.Tlv.{tlv_value}

abbrev pub outcome_of : List ℕ → Option Outcome
outcome_of value = if length value == 4 then Some (record { status = number_at value 0 2; error = number_at value 2 2 }) else None

-- what the first Result TLV says
abbrev pub outcome_in : List ℕ → Option Outcome
outcome_in tlvs = option_and_then outcome_of (tlv_value 0x02 tlvs)

-- a status of 0 is success
abbrev pub is_success : Option Outcome → Bool
is_success None = false
is_success (Some outcome) = outcome.status == 0
