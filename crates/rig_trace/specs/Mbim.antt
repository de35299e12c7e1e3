-- How the messages of MBIM are read by whoever runs its proxy.
use Rattle.std.specs.Prelude.{ℕ, ◌%◌, ◌^◌, Bool, ◌||◌, if◌then◌else◌, List, Option, Some, None, bytes_eq}
use Rattle.mbim_frame.specs.declared.kind.MessageKind.TheVariants.{Open}
use Rattle.mbim_frame.specs.declared.status.TheConstants.{SUCCESS}
use Rattle.mbim_frame.specs.Head.{kind_of, is_kind, number_of, with_number}
use Rattle.mbim_frame.specs.Fragment.{body_of}
use Rattle.mbim_frame.specs.Bodies.{uuid_of}
use Rattle.mbim_frame.specs.Writing.{open_done}
use Rattle.mbim_services.specs.Table.{proxy_control}
use Rattle.rig_runs.specs.Rig.{time_limit}
use Rattle.rig_trace.specs.Rows.{Key, Reading}

-- a request and its answer have their number in common, and their kind but for its highest bit, which an answer has;
-- an error in place of an answer has another kind, and finds none
-- Source: the USB-IF MBIM specification 1.0, section 9.2, "Message Types".
abbrev pub key_of : List ℕ → Key
key_of m = record { kind = kind_of m % 2 ^ 31; cid = 0; number = number_of m }

-- the proxy opens the modem by itself, when the first client asks for that
abbrev pub is_open : List ℕ → Bool
is_open m = is_kind Open m

-- a client tells the proxy which device it wants, and then asks to open it
abbrev pub opens : List ℕ → Bool
opens m = is_open m || bytes_eq (uuid_of (body_of m)) proxy_control

-- alone the modem is opened by a request that beside others finds it open
abbrev pub opened_at_once : List ℕ → Option (List ℕ)
opened_at_once m = if is_open m then Some (open_done 0 SUCCESS) else None

abbrev pub mbim_reading : Reading
mbim_reading = record {
  of_request = key_of;
  of_answer = key_of;
  is_own = is_open;
  opens = opens;
  at_once = opened_at_once;
  with_number = with_number;
  time_limit = time_limit;
}
