-- What kind of message a message is, which byte 6 tells.
-- Source: `qmi_message_is_response` and `qmi_message_is_indication` in libqmi's src/libqmi-glib/qmi-message.c.
use Rattle.std.specs.Prelude.{ℕ, ◌/◌, ◌%◌, ◌^◌, Bool, true, false, ◌==◌, if◌then◌else◌, List, Option, Some, None}
use Rattle.qmux_frame.specs.declared.kind.MessageKind.{MessageKind}
use Rattle.qmux_frame.specs.declared.kind.MessageKind.TheVariants.{Request, Response, Indication}
use Rattle.qmux_frame.specs.Head.{service_of, flags_of, is_framed}

abbrev pub is_bit_set : ℕ → ℕ → Bool
is_bit_set n bit = n / 2 ^ bit % 2 == 1

-- service 0 has no bit for compound messages, so its bits stand one lower
abbrev pub response_bit : ℕ → ℕ
response_bit service = if service == 0 then 0 else 1

abbrev pub indication_bit : ℕ → ℕ
indication_bit service = if service == 0 then 1 else 2

-- a message of a service with these flags: one with the response bit is a response, whatever else is set
abbrev pub kind_by : ℕ → ℕ → MessageKind
kind_by service flags =
    if is_bit_set flags (response_bit service) then Response
    else if is_bit_set flags (indication_bit service) then Indication
    else Request

abbrev pub kind_of : List ℕ → MessageKind
kind_of message = kind_by (service_of message) (flags_of message)

-- the kind of a message whose head is whole and counts its TLVs
abbrev pub framed_kind : List ℕ → Option MessageKind
framed_kind message = if is_framed message then Some (kind_of message) else None

abbrev pub is_response : MessageKind → Bool
is_response Response = true
is_response _ = false

-- the flags that tell a kind and nothing else
abbrev pub flags_for : ℕ → MessageKind → ℕ
flags_for service Request = 0
flags_for service Response = 2 ^ response_bit service
flags_for service Indication = 2 ^ indication_bit service
