-- What the answer to a command that carries a request is.
-- Source: the USB-IF MBIM specification 1.0, section 9.4; what breaks a session is this project's own.
use Rattle.std.specs.Prelude.{◌≡◌, ◌≢◌, ℕ, Bool, not, ◌==◌, ◌&&◌, if◌then◌else◌, List, length, Result, Ok, Err}
use Rattle.framing.specs.Framing.{IsMessage, is_message}
use Rattle.qmux_frame.specs.Frame as qmux
use Rattle.qmux_frame.specs.Head.{is_framed}
use Rattle.mbim_frame.specs.Bodies.{buffer_of, is_done, status_of}
use Rattle.link_session.specs.declared.fault.SessionFault.{SessionFault}
use Rattle.link_session.specs.declared.fault.SessionFault.TheVariants as fault
use Rattle.link_session.specs.Marks.{Placed}
use Rattle.device_core.specs.declared.wanted.Wanted.{Wanted}
use Rattle.device_core.specs.Requests.{answers}
use Rattle.mbim_session.specs.Answers.{body_with, field_of}
use Rattle.mbim_session.specs.Requests.{begins_at, is_error, pieces}
use Rattle.tunnel_session.specs.declared.carried.Carried.{Carried}
use Rattle.tunnel_session.specs.declared.carried.Carried.TheVariants.{Message, Refused}
use Rattle.tunnel_session.specs.declared.ends.TunnelEnd.TheVariants.{Mbim, FunctionError}

-- one whole, framed response that answers the request
abbrev pub is_reply : Wanted → (buffer : List ℕ) → Bool
is_reply wanted buffer = is_message qmux.size_of buffer && is_framed buffer && answers wanted buffer

abbrev pub error_in : Placed → Result Carried SessionFault
error_in message = if length message.bytes == 16 then Ok (Refused (FunctionError (field_of message.bytes))) else Err (fault.Broken message.place)

-- a done whose buffer is no answer breaks the session where it begins
abbrev pub done_in : Wanted → (begin : ℕ) → (body : List ℕ) → Result Carried SessionFault
done_in wanted begin body =
    if not (is_done body) then Err (fault.Broken begin)
    else if not (status_of body == 0) then Ok (Refused (Mbim (status_of body)))
    else if is_reply wanted (buffer_of body) then Ok (Message (record { place = begin; bytes = buffer_of body }))
    else Err (fault.Broken begin)

-- the answer to the command with this number that a message completes, behind those before it
abbrev pub carried_in : Wanted → (number : ℕ) → List Placed → Placed → Result Carried SessionFault
carried_in wanted number before message =
    if is_error number message.bytes
    then error_in message
    else done_in wanted (begins_at (pieces number before) message) (body_with (pieces number before) message)

-- want of memory comes at any answer
abbrev pub Reads : Wanted → (number : ℕ) → List Placed → Placed → Result Carried SessionFault → Type 0
Reads wanted number before message result = result ≢ Err fault.OutOfMemory → result ≡ carried_in wanted number before message

-- what is carried is a whole message
abbrev pub IsWhole : Carried → Type 0
IsWhole (Message message) = IsMessage qmux.size_of message.bytes
IsWhole (Refused end) = Unit {0}
