-- The bytes of a message, from its fields and its TLVs.
-- Source: `struct qmux`, `struct control_header` and `struct service_header` in libqmi's src/libqmi-glib/qmi-message.c.
use Rattle.std.specs.Prelude.{ℕ, ◌+◌, ◌==◌, if◌then◌else◌, List, [], ◌∷◌, ◌++◌, length}
use Rattle.kit_bytes.specs.Numbers.{u16_bytes}
use Rattle.qmux_frame.specs.declared.writing.NewMessage.{NewMessage}
use Rattle.qmux_frame.specs.declared.writing.Sender.{Sender}
use Rattle.qmux_frame.specs.declared.writing.Sender.TheVariants.{Host, Modem}

-- flags, number, message id and TLV length; service 0 has numbers of one byte
abbrev pub inner_head : NewMessage → ℕ → List ℕ
inner_head m tlv_length =
    if m.service == 0
    then m.flags ∷ m.number ∷ u16_bytes m.message ++ u16_bytes tlv_length
    else m.flags ∷ u16_bytes m.number ++ u16_bytes m.message ++ u16_bytes tlv_length

abbrev pub sender_byte : Sender → ℕ
sender_byte Host = 0x00
sender_byte Modem = 0x80

-- the QMUX frame round the bytes of a message: the length counts all bytes behind the first
abbrev pub frame_head : NewMessage → ℕ → List ℕ
frame_head m inner_length = 0x01 ∷ u16_bytes (inner_length + 5) ++ sender_byte m.sender ∷ m.service ∷ m.cid ∷ []

-- the bytes before TLVs of this length
unfoldable pub head_text : NewMessage → ℕ → List ℕ
head_text m tlv_length = frame_head m (length (inner_head m tlv_length) + tlv_length) ++ inner_head m tlv_length

abbrev pub message_text : NewMessage → List ℕ → List ℕ
message_text m tlvs = head_text m (length tlvs) ++ tlvs
