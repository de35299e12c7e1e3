-- The messages that a session with an MBIM modem sends, and which messages answer them.
-- Source: the USB-IF MBIM specification 1.0, sections 9.2 to 9.4.
use Rattle.std.specs.Prelude.{ℕ, Bool, ◌==◌, ◌&&◌, ◌||◌, nat_lt, if◌then◌else◌, List, [], ◌∷◌, length, map, Option, Some, None}
use Rattle.std.specs.List.{filter}
use Rattle.std.specs.Option.{unwrap_or}
use Rattle.mbim_frame.specs.declared.kind.MessageKind.{MessageKind}
use Rattle.mbim_frame.specs.declared.kind.MessageKind.TheVariants as kind
use Rattle.mbim_frame.specs.declared.bodies.CommandHead.{CommandHead}
use Rattle.mbim_frame.specs.Frame.{size_of}
use Rattle.mbim_frame.specs.Kinds.{kind_number}
use Rattle.mbim_frame.specs.Head.{is_kind, number_of}
use Rattle.mbim_frame.specs.Bodies.{command_text}
use Rattle.mbim_frame.specs.Writing.{open_request, close_request}
use Rattle.mbim_fragments.specs.Runs.{Joining, More, Whole, OutOfSequence, TooLong, joining, longest_body}
use Rattle.mbim_fragments.specs.Splitting.{split}
use Rattle.mbim_requests.specs.declared.MbimRequest.{MbimRequest}
use Rattle.mbim_services.specs.Requests.{sent_by, buffer_sent}
use Rattle.link_session.specs.declared.waiting.Meaning.{Meaning}
use Rattle.link_session.specs.declared.waiting.Meaning.TheVariants as meaning
use Rattle.link_session.specs.Marks.{Placed}
use Rattle.link_session.specs.Waiting.{Judge, waiting}
use Rattle.link_session.specs.Asking.{Asked}

-- ---- what is sent ----

-- the messages of a session have at most so many bytes, and so OPEN asks the modem for no longer ones
abbrev pub longest_sent : ℕ
longest_sent = 4096

abbrev pub command_head : MbimRequest → CommandHead
command_head request = record { uuid = (sent_by request).row.service; cid = (sent_by request).row.cid; set = (sent_by request).set }

-- the buffer of its command, which there is for each request
abbrev pub buffer_for : MbimRequest → List ℕ
buffer_for request = unwrap_or (buffer_sent (sent_by request)) []

unfoldable pub command_message : MbimRequest → ℕ → List ℕ
command_message request number = split (kind_number kind.Command) number longest_sent (command_text (command_head request) (buffer_for request))

-- ---- what answers it ----

abbrev pub is_of : MessageKind → ℕ → List ℕ → Bool
is_of kind number message = is_kind kind message && (number_of message == number)

abbrev pub is_error : ℕ → List ℕ → Bool
is_error number message = is_of kind.FunctionError number message

-- the DONE of the request with this number, or a FUNCTION_ERROR for it, of any length
abbrev pub judge_by : (done : MessageKind) → ℕ → Judge
judge_by done number = λ before message. if is_of done number message.bytes || is_error number message.bytes then meaning.Answer else meaning.NoAnswer

-- the fragments of the answer to a command among these messages
abbrev pub pieces : ℕ → List Placed → List Placed
pieces number messages = filter (λ m. is_of kind.CommandDone number m.bytes) messages

abbrev pub bytes_of : List Placed → List (List ℕ)
bytes_of messages = map (λ m. m.bytes) messages

abbrev pub first_place : List Placed → Option ℕ
first_place [] = None
first_place (first ∷ pieces) = Some first.place

-- where the answer begins that has this fragment behind these
abbrev pub begins_at : List Placed → Placed → ℕ
begins_at pieces message = unwrap_or (first_place pieces) message.place

-- a fragment that isn't due, or makes the body too long, breaks the session where it begins itself
abbrev pub meaning_of : Placed → Joining → Meaning
meaning_of message More = meaning.NoAnswer
meaning_of message (Whole body) = meaning.Answer
meaning_of message OutOfSequence = meaning.Broken message.place
meaning_of message TooLong = meaning.Broken message.place

-- a fragment behind others of the answer; without both its heads it breaks the session where the answer begins
abbrev pub judge_piece : List Placed → Placed → Meaning
judge_piece pieces message =
    if nat_lt (length message.bytes) 20
    then meaning.Broken (begins_at pieces message)
    else meaning_of message (joining longest_body (bytes_of pieces) message.bytes)

-- the fragments of the COMMAND_DONE of the request with this number, or a FUNCTION_ERROR for it
abbrev pub judge_command : ℕ → Judge
judge_command number = λ before message.
    if is_error number message.bytes then meaning.Answer
    else if is_of kind.CommandDone number message.bytes then judge_piece (pieces number before) message
    else meaning.NoAnswer

-- ---- what is asked, with so many seconds for its answer ----

abbrev pub opening : ℕ → (seconds : ℕ) → Asked
opening number seconds = record { size = size_of; text = open_request number longest_sent; wait = waiting (judge_by kind.OpenDone number) seconds }

abbrev pub commanding : MbimRequest → ℕ → (seconds : ℕ) → Asked
commanding request number seconds = record { size = size_of; text = command_message request number; wait = waiting (judge_command number) seconds }

abbrev pub closing : ℕ → (seconds : ℕ) → Asked
closing number seconds = record { size = size_of; text = close_request number; wait = waiting (judge_by kind.CloseDone number) seconds }
