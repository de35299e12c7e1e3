-- The head of a QMI message in a QMUX frame: the service and the client id that it goes to or comes from, what kind of message it is, and which.
-- Service 0 (CTL) has numbers of one byte, every other service of two.
-- Source: `struct control_header` and `struct service_header` in libqmi's src/libqmi-glib/qmi-message.c.
use Rattle.std.specs.Prelude.{ℕ, ◌+◌, Bool, ◌==◌, List, length, drop, slice_index, if◌then◌else◌}
use Rattle.kit_bytes.specs.Numbers.{number_at}
use Rattle.qmux_frame.specs.declared.head.Head.{Head}

abbrev pub service_of : List ℕ → ℕ
service_of message = slice_index message 4

abbrev pub is_control : List ℕ → Bool
is_control message = service_of message == 0

abbrev pub cid_of : List ℕ → ℕ
cid_of message = slice_index message 5

abbrev pub flags_of : List ℕ → ℕ
flags_of message = slice_index message 6

-- the number that pairs a request with its answer
abbrev pub number_of : List ℕ → ℕ
number_of message = if is_control message then slice_index message 7 else number_at message 7 2

abbrev pub message_id_of : List ℕ → ℕ
message_id_of message = if is_control message then number_at message 8 2 else number_at message 9 2

-- how many bytes stand before the TLVs
abbrev pub head_length : List ℕ → ℕ
head_length message = if is_control message then 12 else 13

-- the bytes behind the head
abbrev pub tlvs_in : List ℕ → List ℕ
tlvs_in message = drop (head_length message) message

abbrev pub tlv_length : List ℕ → ℕ
tlv_length message = if is_control message then number_at message 10 2 else number_at message 11 2

-- the head is whole, and its TLV length counts the bytes behind it
abbrev pub is_framed : List ℕ → Bool
is_framed message = head_length message + tlv_length message == length message

abbrev pub head_of : List ℕ → Head
head_of message = record {
  service = service_of message;
  cid = cid_of message;
  flags = flags_of message;
  number = number_of message;
  message = message_id_of message;
  framed = is_framed message;
}
