-- Messages made from a message: with another number, and the reply that tells a result alone.
use Rattle.std.specs.Prelude.{ℕ, ◌/◌, ◌%◌, ◌==◌, List, ◌∷◌, ◌++◌, take, drop, slice_index, if◌then◌else◌}
use Rattle.kit_bytes.specs.Numbers.{u16_bytes}
use Rattle.qmux_frame.specs.declared.head.Head.{Head}
use Rattle.qmux_frame.specs.declared.kind.MessageKind.TheVariants.{Response}
use Rattle.qmux_frame.specs.declared.writing.NewMessage.{NewMessage}
use Rattle.qmux_frame.specs.declared.writing.Sender.TheVariants.{Modem}
use Rattle.qmux_frame.specs.Head.{service_of, is_control, cid_of}
use Rattle.qmux_frame.specs.Kind.{flags_for}
use Rattle.qmux_frame.specs.Writing.{message_text}

-- the message with this number in place of its own
abbrev pub with_number : ℕ → List ℕ → List ℕ
with_number number message =
    if is_control message
    then take 7 message ++ number ∷ drop 8 message
    else take 7 message ++ number % 256 ∷ number / 256 ∷ drop 9 message

-- the Result TLV: status 0 where there is no error, else 1, and the error
abbrev pub result_tlv : ℕ → List ℕ
result_tlv error = 0x02 ∷ 0x04 ∷ 0x00 ∷ (if error == 0 then 0 else 1) ∷ 0x00 ∷ u16_bytes error

-- the response with a message's service, client id, number and message id, and the Result TLV alone
abbrev pub result_reply : List ℕ → ℕ → List ℕ
result_reply message error =
    if is_control message
    then 0x01 ∷ 0x12 ∷ 0x00 ∷ 0x80 ∷ service_of message ∷ cid_of message ∷ 0x01 ∷ slice_index message 7 ∷ slice_index message 8 ∷ slice_index message 9 ∷ 0x07 ∷ 0x00 ∷ result_tlv error
    else 0x01 ∷ 0x13 ∷ 0x00 ∷ 0x80 ∷ service_of message ∷ cid_of message ∷ 0x02 ∷ slice_index message 7 ∷ slice_index message 8 ∷ slice_index message 9 ∷ slice_index message 10 ∷ 0x07 ∷ 0x00 ∷ result_tlv error

-- ---- the same by the fields of the message's head ----

-- service 0 has numbers of one byte
abbrev pub short_number : Head → ℕ
short_number head = if head.service == 0 then head.number % 256 else head.number

-- what answers a message with this head, but for its TLVs
abbrev pub reply_to : Head → NewMessage
reply_to head = record {
  sender = Modem;
  service = head.service;
  cid = head.cid;
  flags = flags_for head.service Response;
  number = short_number head;
  message = head.message;
}

unfoldable pub reply_of : Head → ℕ → List ℕ
reply_of head error = message_text (reply_to head) (result_tlv error)
