-- The lines of a QMI message.
use Rattle.std.specs.Prelude.{ℕ, ◌/◌, ◌%◌, ◌==◌, ◌&&◌, Bool, true, false, if◌then◌else◌, List, [], ◌∷◌, ◌++◌, length, Option, Some, None, codes, decimal, encode_utf8_all}
use Rattle.std.specs.List.{find, flat_map}
use Rattle.kit_bytes.specs.Numbers.{number_at}
use Rattle.qmux_frame.specs.declared.kind.MessageKind.{MessageKind}
use Rattle.qmux_frame.specs.declared.kind.MessageKind.TheVariants.{Request, Response, Indication}
use Rattle.qmux_frame.specs.declared.head.Head.{Head}
use Rattle.qmux_frame.specs.Head.{head_of, tlvs_in}
use Rattle.qmux_frame.specs.Kind.{kind_by, is_response}
use Rattle.tlv_codec.specs.Tlv.{Entry, tlvs_of}
use Rattle.qmi_values.specs.Value.{Value}
use Rattle.tlv_values.specs.Reading.{reading}
use Rattle.message_tables.specs.Tlvs.{TlvForm}
use Rattle.message_tables.specs.Messages.{MessageForm, is_key}
use Rattle.print_text.specs.Texts.{hex_pair}
use Rattle.print_text.specs.Lines.{spaces}
use Rattle.print_text.specs.declared.wording.Wording.TheVariants.{NumbersAlone}
use Rattle.qmicli_print.specs.declared.shown.Shown.TheVariants.{Service}
use Rattle.qmicli_print.specs.Words.{shown_as, word_of}
use Rattle.qmicli_print.specs.Printed.{titled_text}
use Rattle.stream_lines.specs.Lines.{Showing, place_behind}
use Rattle.dissect.specs.Lines.{hex, hex_line}

-- ---- what the tables have ----

abbrev pub head_kind : Head → MessageKind
head_kind head = kind_by head.service head.flags

abbrev pub is_indication : MessageKind → Bool
is_indication Indication = true
is_indication _ = false

-- the message of a head in the tables
abbrev pub described : List MessageForm → Head → Option MessageForm
described tables head = find (is_key head.service head.message (is_indication (head_kind head))) tables

-- the TLVs that a message of a kind may have
abbrev pub forms_by : MessageKind → MessageForm → List TlvForm
forms_by Request form = form.input
forms_by _ form = form.output

abbrev pub forms_for : MessageKind → Option MessageForm → List TlvForm
forms_for kind None = []
forms_for kind (Some form) = forms_by kind form

-- ---- the line of the head ----

-- a service's word, or its number
abbrev pub service_by : ℕ → Option (List ℕ) → List ℕ
service_by service None = decimal service
service_by service (Some word) = word

abbrev pub kind_word : MessageKind → List ℕ
kind_word Request = codes " request client "
kind_word Response = codes " response client "
kind_word Indication = codes " indication client "

abbrev pub title : Option MessageForm → List ℕ
title None = []
title (Some form) = codes ": " ++ encode_utf8_all form.name

-- a message id in four digits
abbrev pub id_digits : ℕ → List ℕ
id_digits id = hex (id / 256 ∷ id % 256 ∷ [])

-- the place, the service, the id, the kind, the client id and the number, and the name where the tables have one
unfoldable pub head_line : Option MessageForm → ℕ → Head → List ℕ
head_line form at head =
    decimal at ++ codes " " ++ service_by head.service (word_of Service head.service) ++ codes " 0x" ++ id_digits head.message
    ++ kind_word (head_kind head) ++ decimal head.cid ++ codes " number " ++ decimal head.number ++ title form ++ codes "\n"

-- ---- the lines of the TLVs ----

-- a TLV by its type
abbrev pub tlv_name : ℕ → List ℕ
tlv_name kind = codes "0x" ++ hex_pair kind

-- a name behind a blank, where there is one
abbrev pub name_behind : List ℕ → List ℕ
name_behind [] = []
name_behind (byte ∷ name) = codes " " ++ byte ∷ name

-- a TLV by its type and its name in the tables
unfoldable pub named_tlv : ℕ → List ℕ → List ℕ
named_tlv kind name = tlv_name kind ++ name_behind name

abbrev pub bytes_line : Entry → List ℕ
bytes_line entry = hex_line (tlv_name entry.kind) entry.value

-- a value where it reads, shown as its name in the tables says, else its bytes
abbrev pub value_lines : Entry → TlvForm → Option Value → List ℕ
value_lines entry form None = bytes_line entry
value_lines entry form (Some value) = titled_text NumbersAlone form.form (shown_as (encode_utf8_all form.name)) (spaces 1) (named_tlv entry.kind (encode_utf8_all form.name)) value

abbrev pub plain_lines : Entry → Option TlvForm → List ℕ
plain_lines entry None = bytes_line entry
plain_lines entry (Some form) = value_lines entry form (reading form.form entry.value)

-- the Result TLV of a response
abbrev pub is_outcome : MessageKind → Entry → Bool
is_outcome kind entry = is_response kind && (entry.kind == 2) && (length entry.value == 4)

unfoldable pub outcome_line : List ℕ → List ℕ
outcome_line value = codes "  0x02: status " ++ decimal (number_at value 0 2) ++ codes ", error " ++ decimal (number_at value 2 2) ++ codes "\n"

abbrev pub tlv_lines : MessageKind → List TlvForm → Entry → List ℕ
tlv_lines kind forms entry =
    if is_outcome kind entry then outcome_line entry.value
    else plain_lines entry (find (λ form. form.kind == entry.kind) forms)

-- all TLVs in order, or their bytes where they aren't whole
abbrev pub entry_lines : MessageKind → List TlvForm → List ℕ → Option (List Entry) → List ℕ
entry_lines kind forms bytes None = hex_line (codes "tlvs") bytes
entry_lines kind forms bytes (Some entries) = flat_map (tlv_lines kind forms) entries

-- ---- the message ----

abbrev pub framed_lines : Option MessageForm → ℕ → Head → (tlvs : List ℕ) → List ℕ
framed_lines form at head tlvs = head_line form at head ++ entry_lines (head_kind head) (forms_for (head_kind head) form) tlvs (tlvs_of tlvs)

-- bytes whose head isn't whole, or counts other TLVs than there are
unfoldable pub unframed_line : ℕ → List ℕ → List ℕ
unframed_line at message = decimal at ++ codes " unframed: " ++ hex message ++ codes "\n"

-- the lines of a message that stands at a place and has this head
abbrev pub lines_at : List MessageForm → ℕ → Head → List ℕ → List ℕ
lines_at tables at head message =
    if head.framed then framed_lines (described tables head) at head (tlvs_in message)
    else unframed_line at message

-- what a message shows behind those before it
abbrev pub qmi_lines : List MessageForm → Showing
qmi_lines tables before message = lines_at tables (place_behind before) (head_of message) message
