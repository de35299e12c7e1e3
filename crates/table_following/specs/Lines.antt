-- What is shown of a message to a client that follows the indications of its service.
-- Source of the client id of all: QMI_CID_BROADCAST in libqmi's src/libqmi-glib/qmi-enums-private.h.
use Rattle.std.specs.Prelude.{ℕ, ◌==◌, ◌&&◌, ◌||◌, true, Bool, List, [], ◌++◌, Option, Some, None, chars, codes, encode_utf8_all, if◌then◌else◌}
use Rattle.std.specs.List.{find}
use Rattle.print_text.specs.Lines.{heading}
use Rattle.tlv_codec.specs.Tlv.{tlvs_of}
use Rattle.qmux_frame.specs.declared.head.Head.{Head}
use Rattle.qmux_frame.specs.declared.kind.MessageKind.TheVariants.{Indication}
use Rattle.qmux_frame.specs.Head.{head_of, tlvs_in}
use Rattle.message_tables.specs.Tlvs.{TlvForm}
use Rattle.message_tables.specs.Messages.{MessageForm, is_key}
use Rattle.message_tables.specs.View.{messages_in}
use Rattle.message_tables.specs.declared.message.Message.{Message}
use Rattle.dissect.specs.Qmi.{entry_lines, head_kind, id_digits, is_indication}
use Rattle.json_values.specs.Lines.{json_line}
use Rattle.json_values.specs.Showing.{by_qmicli}
use Rattle.table_requests.specs.Messages.{indication_json}

-- whose indications are shown, by which tables, and whether each is one JSON object
pub record Watched : Type 0 where
  pub service : ℕ
  pub cid : ℕ
  pub json : Bool
  pub indications : List Message

-- ---- which ----

-- an indication of the service, for the client or for each one
abbrev pub is_followed : (service cid : ℕ) → Head → Bool
is_followed service cid head =
    head.framed && is_indication (head_kind head) && (head.service == service) && (head.cid == cid || head.cid == 255)

-- ---- how ----

-- the name, and the TLVs as a capture shows them
unfoldable pub indication_lines : List ℕ → List TlvForm → List ℕ → List ℕ
indication_lines name forms tlvs = heading (codes "indication ") (encode_utf8_all name) ++ entry_lines Indication forms tlvs (tlvs_of tlvs)

abbrev pub indication_text : Bool → List ℕ → List TlvForm → List ℕ → List ℕ
indication_text json name forms tlvs = if json then json_line (indication_json by_qmicli name forms tlvs) else indication_lines name forms tlvs

-- the id in four digits
abbrev pub id_digits_text : ℕ → List ℕ
id_digits_text id = codes "0x" ++ id_digits id

abbrev pub id_name : ℕ → List ℕ
id_name id = chars (id_digits_text id)

-- by its table, or by its id where the tables lack it
abbrev pub told_by : Bool → ℕ → List ℕ → Option MessageForm → List ℕ
told_by json id tlvs None = indication_text json (id_name id) [] tlvs
told_by json id tlvs (Some form) = indication_text json form.name form.output tlvs

abbrev pub told_text : Watched → ℕ → List ℕ → List ℕ
told_text watch id tlvs = told_by watch.json id tlvs (find (is_key watch.service id true) (messages_in watch.indications))

-- the lines of a message, none where it isn't followed
abbrev pub followed_lines : Watched → List ℕ → List ℕ
followed_lines watch message =
    if is_followed watch.service watch.cid (head_of message) then told_text watch (head_of message).message (tlvs_in message) else []
