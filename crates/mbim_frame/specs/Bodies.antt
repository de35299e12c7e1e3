-- The bodies of commands, of their answers and of indications: a service's UUID, one of its CIDs, and a buffer.
-- Source: the USB-IF MBIM specification 1.0, MBIM_COMMAND_MSG (section 9.3.3), MBIM_COMMAND_DONE (section 9.4.3) and MBIM_INDICATE_STATUS_MSG.
use Rattle.std.specs.Prelude.{ℕ, ◌+◌, Bool, ◌&&◌, ◌==◌, nat_le, if◌then◌else◌, List, ◌++◌, length, take, drop, Option, Some, None}
use Rattle.mbim_frame.specs.declared.bodies.CommandHead.{CommandHead}
use Rattle.mbim_frame.specs.declared.bodies.DoneHead.{DoneHead}
use Rattle.mbim_frame.specs.declared.bodies.IndicationHead.{IndicationHead}
use Rattle.mbim_frame.specs.Numbers.{u32_at, u32_bytes}

-- a UUID, a CID, the number behind them, and the length of the buffer
abbrev pub body_head : (uuid : List ℕ) → (cid field buffer_length : ℕ) → List ℕ
body_head uuid cid field buffer_length = uuid ++ (u32_bytes cid ++ u32_bytes field ++ u32_bytes buffer_length)

abbrev pub uuid_of : List ℕ → List ℕ
uuid_of body = take 16 body

abbrev pub cid_of : List ℕ → ℕ
cid_of body = u32_at body 16

-- of a command or an answer
abbrev pub buffer_of : List ℕ → List ℕ
buffer_of body = drop 28 body

-- ---- commands ----

-- the type is 0 for a query, 1 for a set
abbrev pub is_set : List ℕ → Bool
is_set body = u32_at body 20 == 1

-- the head is whole, the type is one of the two, and the buffer has the length that the head says
abbrev pub is_command : List ℕ → Bool
is_command body = nat_le 28 (length body) && nat_le (u32_at body 20) 1 && (28 + u32_at body 24 == length body)

abbrev pub command_head_of : List ℕ → CommandHead
command_head_of body = record { uuid = uuid_of body; cid = cid_of body; set = is_set body }

abbrev pub read_command : List ℕ → Option CommandHead
read_command body = if is_command body then Some (command_head_of body) else None

abbrev pub command_head_text : CommandHead → (buffer_length : ℕ) → List ℕ
command_head_text head buffer_length = body_head head.uuid head.cid (if head.set then 1 else 0) buffer_length

abbrev pub command_text : CommandHead → (buffer : List ℕ) → List ℕ
command_text head buffer = command_head_text head (length buffer) ++ buffer

-- ---- answers ----

abbrev pub status_of : List ℕ → ℕ
status_of body = u32_at body 20

-- the head is whole, and the buffer has the length that the head says
abbrev pub is_done : List ℕ → Bool
is_done body = nat_le 28 (length body) && (28 + u32_at body 24 == length body)

abbrev pub done_head_of : List ℕ → DoneHead
done_head_of body = record { uuid = uuid_of body; cid = cid_of body; status = status_of body }

abbrev pub read_done : List ℕ → Option DoneHead
read_done body = if is_done body then Some (done_head_of body) else None

abbrev pub done_head_text : DoneHead → (buffer_length : ℕ) → List ℕ
done_head_text head buffer_length = body_head head.uuid head.cid head.status buffer_length

abbrev pub done_text : DoneHead → (buffer : List ℕ) → List ℕ
done_text head buffer = done_head_text head (length buffer) ++ buffer

-- ---- indications ----

abbrev pub indicated_buffer_of : List ℕ → List ℕ
indicated_buffer_of body = drop 24 body

-- the head is whole, and the buffer has the length that the head says
abbrev pub is_indication : List ℕ → Bool
is_indication body = nat_le 24 (length body) && (24 + u32_at body 20 == length body)

abbrev pub indication_head_of : List ℕ → IndicationHead
indication_head_of body = record { uuid = uuid_of body; cid = cid_of body }

abbrev pub read_indication : List ℕ → Option IndicationHead
read_indication body = if is_indication body then Some (indication_head_of body) else None
