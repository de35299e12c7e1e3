-- The lines of an MBIM message.
use Rattle.std.specs.Prelude.{ℕ, ◌/◌, ◌%◌, ◌==◌, ◌&&◌, nat_le, Bool, true, false, if◌then◌else◌, List, [], ◌∷◌, ◌++◌, length, filter, Option, Some, None, Ok, Err, codes, decimal}
use Rattle.mbim_frame.specs.declared.kind.MessageKind.{MessageKind}
use Rattle.mbim_frame.specs.declared.kind.MessageKind.TheVariants.{Open, Close, Command, HostError, OpenDone, CloseDone, CommandDone, FunctionError, IndicateStatus}
use Rattle.mbim_frame.specs.declared.head.MHead.{MHead}
use Rattle.mbim_frame.specs.declared.bodies.CommandHead.{CommandHead}
use Rattle.mbim_frame.specs.declared.bodies.DoneHead.{DoneHead}
use Rattle.mbim_frame.specs.declared.bodies.IndicationHead.{IndicationHead}
use Rattle.mbim_frame.specs.Kinds.{kind_numbered}
use Rattle.mbim_frame.specs.Head.{head_of, kind_of, tail_of, is_kind}
use Rattle.mbim_frame.specs.Bodies.{read_command, read_done, read_indication, buffer_of, indicated_buffer_of}
use Rattle.mbim_fragments.specs.declared.assembly.Took.{Took}
use Rattle.mbim_fragments.specs.declared.assembly.Took.TheVariants as took
use Rattle.mbim_fragments.specs.Runs.{Joining, More, Whole, OutOfSequence, TooLong, joining, run_of, longest_body}
use Rattle.mbim_fields.specs.Layout.{Layout}
use Rattle.mbim_fields.specs.Value.{Value}
use Rattle.mbim_fields.specs.Reading.{Read, read}
use Rattle.mbim_services.specs.declared.table.Way.{Way}
use Rattle.mbim_services.specs.declared.table.Way.TheVariants.{Query, Set, Done}
use Rattle.mbim_services.specs.Table.{layout_for}
use Rattle.print_text.specs.Lines.{spaces}
use Rattle.print_text.specs.declared.wording.Wording.TheVariants.{NumbersAlone}
use Rattle.mbimcli_print.specs.Texts.{uuid_text}
use Rattle.mbimcli_print.specs.Printed.{fields_text}
use Rattle.stream_lines.specs.Lines.{Showing, place_behind}
use Rattle.dissect.specs.Lines.{hex, hex_line}

-- ---- the line of the head ----

abbrev pub kind_name : MessageKind → List ℕ
kind_name Open = codes "OPEN"
kind_name Close = codes "CLOSE"
kind_name Command = codes "COMMAND"
kind_name HostError = codes "HOST_ERROR"
kind_name OpenDone = codes "OPEN_DONE"
kind_name CloseDone = codes "CLOSE_DONE"
kind_name CommandDone = codes "COMMAND_DONE"
kind_name FunctionError = codes "FUNCTION_ERROR"
kind_name IndicateStatus = codes "INDICATE_STATUS"

-- a number of 32 bits in eight digits
abbrev pub kind_digits : ℕ → List ℕ
kind_digits number = hex (number / 256 / 256 / 256 % 256 ∷ number / 256 / 256 % 256 ∷ number / 256 % 256 ∷ number % 256 ∷ [])

-- a kind's name, or its number
abbrev pub kind_by : ℕ → Option MessageKind → List ℕ
kind_by number None = codes "0x" ++ kind_digits number
kind_by number (Some kind) = kind_name kind

-- the place, the kind and the number
unfoldable pub head_line : ℕ → MHead → List ℕ
head_line at head = decimal at ++ codes " " ++ kind_by head.kind (kind_numbered head.kind) ++ codes " number " ++ decimal head.number ++ codes "\n"

-- ---- buffers ----

-- the bytes, where there are some
abbrev pub bytes_lines : List ℕ → List ℕ
bytes_lines [] = []
bytes_lines (byte ∷ bytes) = hex_line (codes "buffer") (byte ∷ bytes)

-- the fields of a buffer that reads, else its bytes
abbrev pub read_lines : Layout → List ℕ → Read (List Value) → List ℕ
read_lines layout buffer (Ok values) = fields_text NumbersAlone layout 0 (spaces 1) values
read_lines layout buffer (Err fault) = bytes_lines buffer

abbrev pub buffer_lines : Option Layout → List ℕ → List ℕ
buffer_lines None buffer = bytes_lines buffer
buffer_lines (Some layout) buffer = read_lines layout buffer (read layout buffer)

-- ---- bodies ----

-- the UUID, the CID, and what stands behind them
unfoldable pub body_line : List ℕ → ℕ → List ℕ → List ℕ
body_line uuid cid more = codes "  " ++ uuid_text uuid ++ codes " cid " ++ decimal cid ++ more ++ codes "\n"

abbrev pub way_word : Bool → List ℕ
way_word set = if set then codes " set" else codes " query"

abbrev pub way_sent : Bool → Way
way_sent set = if set then Set else Query

abbrev pub command_lines : List ℕ → Option CommandHead → List ℕ
command_lines body None = []
command_lines body (Some head) = body_line head.uuid head.cid (way_word head.set) ++ buffer_lines (layout_for head.uuid head.cid (way_sent head.set)) (buffer_of body)

-- the buffer of a failure has no layout
abbrev pub layout_done : DoneHead → Option Layout
layout_done head = if head.status == 0 then layout_for head.uuid head.cid Done else None

abbrev pub done_lines : List ℕ → Option DoneHead → List ℕ
done_lines body None = []
done_lines body (Some head) = body_line head.uuid head.cid (codes " status " ++ decimal head.status) ++ buffer_lines (layout_done head) (buffer_of body)

abbrev pub indication_lines : List ℕ → Option IndicationHead → List ℕ
indication_lines body None = []
indication_lines body (Some head) = body_line head.uuid head.cid [] ++ buffer_lines (layout_for head.uuid head.cid Done) (indicated_buffer_of body)

-- a body that breaks the rules of its length shows nothing
abbrev pub body_lines : MessageKind → List ℕ → List ℕ
body_lines Command body = command_lines body (read_command body)
body_lines CommandDone body = done_lines body (read_done body)
body_lines IndicateStatus body = indication_lines body (read_indication body)
body_lines _ body = []

-- ---- fragments ----

-- the kinds of message that come in fragments
abbrev pub is_split : MessageKind → Bool
is_split Command = true
is_split CommandDone = true
is_split IndicateStatus = true
is_split _ = false

-- a message of a kind that has both heads
abbrev pub is_fragment : MessageKind → List ℕ → Bool
is_fragment kind message = is_kind kind message && nat_le 20 (length message)

-- those that are there behind these messages
abbrev pub run_behind : MessageKind → List (List ℕ) → List (List ℕ)
run_behind kind before = run_of longest_body (filter (is_fragment kind) before)

abbrev pub joined_lines : MessageKind → Joining → List ℕ
joined_lines kind More = []
joined_lines kind (Whole body) = body_lines kind body
joined_lines kind OutOfSequence = codes "  refused\n"
joined_lines kind TooLong = codes "  refused\n"

-- what is told of a fragment, with the body that was completed last
abbrev pub took_lines : MessageKind → Took → List ℕ → List ℕ
took_lines kind took.Message body = body_lines kind body
took_lines kind took.More body = []
took_lines kind _ body = codes "  refused\n"

-- ---- the message ----

-- what stands behind the head
abbrev pub tail_lines : List ℕ → List ℕ
tail_lines [] = []
tail_lines (byte ∷ bytes) = codes "  " ++ hex (byte ∷ bytes) ++ codes "\n"

abbrev pub inner_lines : Option MessageKind → List (List ℕ) → List ℕ → List ℕ
inner_lines None before message = tail_lines (tail_of message)
inner_lines (Some kind) before message =
    if is_split kind && nat_le 20 (length message) then joined_lines kind (joining longest_body (run_behind kind before) message)
    else tail_lines (tail_of message)

-- what a message shows behind those before it
abbrev pub mbim_lines : Showing
mbim_lines before message = head_line (place_behind before) (head_of message) ++ inner_lines (kind_numbered (kind_of message)) before message
