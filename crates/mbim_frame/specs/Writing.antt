-- The bytes of a message, from its fields.
-- Source: the USB-IF MBIM specification 1.0, sections 9.1 to 9.4.
use Rattle.std.specs.Prelude.{ℕ, ◌+◌, List, [], ◌++◌, length}
use Rattle.mbim_frame.specs.declared.kind.MessageKind.TheVariants.{Open, Close, OpenDone, CloseDone, CommandDone, FunctionError}
use Rattle.mbim_frame.specs.declared.writing.NewFragment.{NewFragment}
use Rattle.mbim_frame.specs.declared.bodies.DoneHead.{DoneHead}
use Rattle.mbim_frame.specs.Numbers.{u32_bytes}
use Rattle.mbim_frame.specs.Kinds.{kind_number}
use Rattle.mbim_frame.specs.Bodies.{done_text}

-- the head before a tail of this length
abbrev pub message_head : (kind number tail_length : ℕ) → List ℕ
message_head kind number tail_length = u32_bytes kind ++ u32_bytes (12 + tail_length) ++ u32_bytes number

abbrev pub message_text : (kind number : ℕ) → (tail : List ℕ) → List ℕ
message_text kind number tail = message_head kind number (length tail) ++ tail

-- ---- opening and closing ----

abbrev pub open_request : (number max : ℕ) → List ℕ
open_request number max = message_text (kind_number Open) number (u32_bytes max)

abbrev pub close_request : (number : ℕ) → List ℕ
close_request number = message_text (kind_number Close) number []

abbrev pub open_done : (number status : ℕ) → List ℕ
open_done number status = message_text (kind_number OpenDone) number (u32_bytes status)

abbrev pub close_done : (number status : ℕ) → List ℕ
close_done number status = message_text (kind_number CloseDone) number (u32_bytes status)

abbrev pub function_error : (number code : ℕ) → List ℕ
function_error number code = message_text (kind_number FunctionError) number (u32_bytes code)

-- ---- fragments ----

-- both heads before a part of the body that has this length
abbrev pub fragment_head_text : NewFragment → (part_length : ℕ) → List ℕ
fragment_head_text f part_length = message_head f.kind f.number (8 + part_length) ++ u32_bytes f.total ++ u32_bytes f.current

abbrev pub fragment_text : NewFragment → (part : List ℕ) → List ℕ
fragment_text f part = fragment_head_text f (length part) ++ part

-- a whole body in the only fragment of its message
abbrev pub unsplit : (kind number : ℕ) → (body : List ℕ) → List ℕ
unsplit kind number body = fragment_text (record { kind = kind; number = number; total = 1; current = 0 }) body

-- an answer without a buffer
abbrev pub plain_done : (number : ℕ) → DoneHead → List ℕ
plain_done number head = unsplit (kind_number CommandDone) number (done_text head [])
