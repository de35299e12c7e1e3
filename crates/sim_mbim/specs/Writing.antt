-- The messages of a reply.
-- Source: the USB-IF MBIM specification 1.0, MBIM_COMMAND_DONE (section 9.4.3) and MBIM_INDICATE_STATUS_MSG.
use Rattle.std.specs.Prelude.{ℕ, Bool, ◌==◌, ◌&&◌, bytes_eq, List, [], ◌++◌, length, if◌then◌else◌}
use Rattle.kit_bytes.specs.Indications.{wants}
use Rattle.mbim_frame.specs.Numbers.{u32_bytes}
use Rattle.mbim_frame.specs.declared.kind.MessageKind.TheVariants.{CommandDone, IndicateStatus}
use Rattle.mbim_frame.specs.declared.status.TheConstants.{SUCCESS}
use Rattle.mbim_frame.specs.declared.bodies.CommandHead.{CommandHead}
use Rattle.mbim_frame.specs.Kinds.{kind_number}
use Rattle.mbim_frame.specs.Bodies.{done_text}
use Rattle.mbim_fragments.specs.Splitting.{split}
use Rattle.mbim_services.specs.Table as table
use Rattle.sim_mbim.specs.Modem.{Modem}
use Rattle.sim_mbim.specs.Commands.{Reply}

-- ---- the answer ----

abbrev pub done : (number longest : ℕ) → CommandHead → (status : ℕ) → (buffer : List ℕ) → List ℕ
done number longest head status buffer = split (kind_number CommandDone) number longest (done_text (record { uuid = head.uuid; cid = head.cid; status = status }) buffer)

-- ---- the indication ----

-- a set of the radio that succeeded is told to whoever listens to it
abbrev pub is_radio_set : CommandHead → Bool
is_radio_set head = head.set && bytes_eq head.uuid table.radio_state.service && (head.cid == table.radio_state.cid)

abbrev pub is_indicated : CommandHead → (status : ℕ) → Modem → Bool
is_indicated head status m = is_radio_set head && (status == SUCCESS) && wants m.subscribed head.uuid head.cid

-- the body of an indication
abbrev pub indication_text : (uuid : List ℕ) → (cid : ℕ) → (buffer : List ℕ) → List ℕ
indication_text uuid cid buffer = uuid ++ u32_bytes cid ++ u32_bytes (length buffer) ++ buffer

-- it has the buffer of the answer, and the number 0
abbrev pub indication : (longest : ℕ) → CommandHead → (buffer : List ℕ) → List ℕ
indication longest head buffer = split (kind_number IndicateStatus) 0 longest (indication_text head.uuid head.cid buffer)

-- the answer, and behind it the indication, where there is one
abbrev pub reply_text : (number longest : ℕ) → CommandHead → Reply → List ℕ
reply_text number longest head reply =
    done number longest head reply.status reply.buffer ++ (if is_indicated head reply.status reply.modem then indication longest head reply.buffer else [])
