-- The head of a message.
-- Source: the USB-IF MBIM specification 1.0, section 9.1, "MBIM_MESSAGE_HEADER".
use Rattle.std.specs.Prelude.{ℕ, Bool, ◌==◌, List, ◌++◌, take, drop}
use Rattle.mbim_frame.specs.declared.kind.MessageKind.{MessageKind}
use Rattle.mbim_frame.specs.declared.head.MHead.{MHead}
use Rattle.mbim_frame.specs.Numbers.{u32_at, u32_bytes}
use Rattle.mbim_frame.specs.Kinds.{kind_number}

-- the number of the message's kind
abbrev pub kind_of : List ℕ → ℕ
kind_of message = u32_at message 0

abbrev pub is_kind : MessageKind → List ℕ → Bool
is_kind kind message = kind_of message == kind_number kind

abbrev pub length_of : List ℕ → ℕ
length_of message = u32_at message 4

-- the number that pairs a request with its answer
abbrev pub number_of : List ℕ → ℕ
number_of message = u32_at message 8

abbrev pub head_of : List ℕ → MHead
head_of message = record { kind = kind_of message; length = length_of message; number = number_of message }

-- what stands behind the head
abbrev pub tail_of : List ℕ → List ℕ
tail_of message = drop 12 message

-- the message with this number in place of its own
abbrev pub with_number : ℕ → List ℕ → List ℕ
with_number number message = take 8 message ++ u32_bytes number ++ drop 12 message
