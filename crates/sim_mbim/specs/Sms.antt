-- What the modem answers to the commands of the service SMS.
-- Source: the USB-IF MBIM specification 1.0, section 10.6.
use Rattle.std.specs.Prelude.{ℕ, ◌==◌, List, [], ◌∷◌, ◌++◌, Option, Some, None, option_map, option_and_then, if◌then◌else◌}
use Rattle.mbim_fields.specs.Value.{Value, number, octets}
use Rattle.mbim_services.specs.Table as table
use Rattle.mbim_services.specs.Requests.{no_text}
use Rattle.sim_mbim.specs.Values.{number_at, zero, zeros, count_of, list, structure}
use Rattle.sim_mbim.specs.Places.{values_asked, without}
use Rattle.sim_mbim.specs.Modem.{Modem, Outcome, becomes}

abbrev pub configuration : List Value
configuration = zeros 4 ++ no_text ∷ []

-- ---- messages ----

-- its index, no status, and its octets
abbrev pub message : ℕ × List ℕ → Value
message m = structure (number m.0 ∷ zero ∷ octets m.1 ∷ [])

abbrev pub list_of : (messages : List Value) → List Value
list_of messages = zero ∷ count_of messages ∷ list messages ∷ []

-- MBIM_SMS_FORMAT: MBIMSmsFormatPdu
abbrev pub pdu : ℕ
pdu = 0

abbrev pub read : (format flag index : ℕ) → Modem → Option (List Value)
read format flag index m = if format == pdu then option_map list_of (values_asked message flag index m.messages) else None

abbrev pub delete : (flag index : ℕ) → Modem → Option Outcome
delete flag index m = option_and_then (λ left. becomes (record m { messages = left }) []) (without flag index m.messages)

-- ---- queries and sets ----

abbrev pub answer_to_query : (cid : ℕ) → List Value → Modem → Option (List Value)
answer_to_query cid asked m =
    if cid == table.sms_configuration.cid then Some configuration
    else if cid == table.sms_read.cid then read (number_at asked 0) (number_at asked 1) (number_at asked 2) m
    else if cid == table.sms_store_status.cid then Some (zeros 2)
    else None

abbrev pub answer_to_set : (cid : ℕ) → List Value → Modem → Option Outcome
answer_to_set cid asked m = if cid == table.sms_delete.cid then delete (number_at asked 0) (number_at asked 1) m else None
