-- What a simulated modem answers to the messages of service 5 (WMS): the short messages that it stores.
use Rattle.std.specs.Prelude.{ℕ, ◌==◌, List, [], ◌∷◌, Option, Some, None, option_map, option_and_then, if◌then◌else◌}
use Rattle.std.specs.List.{filter_map, enumerate_from}
use Rattle.qmi_values.specs.Value.{Value, number}
use Rattle.qmi_services.specs.Inputs.{sequence_of, bytes_of}
use Rattle.qmi_services.specs.Requests.{point_to_point}
use Rattle.qmi_services.specs.Table as table
use Rattle.qmi_services.specs.Table.{Row}
use Rattle.sim_qmi.specs.declared.wms.WmsRequest.{WmsRequest}
use Rattle.sim_qmi.specs.declared.wms.WmsRequest.TheVariants.{RawSend, RawRead, Delete, ListMessages}
use Rattle.sim_qmi.specs.Errors.{invalid_client_id}
use Rattle.sim_qmi.specs.State.{State, message_at, without_message}
use Rattle.sim_qmi.specs.Step.{Step, success, refused, answered}
use Rattle.sim_qmi.specs.Inputs.{word_in, second_in}
use Rattle.sim_qmi.specs.Values.{list, number_after}

-- ---- what a request asks ----

-- the index behind the storage
abbrev pub index_in : Value → Option ℕ
index_in value = option_and_then word_in (second_in value)

-- the request with this message id and these values of TLV 0x01 and of TLV 0x10; None where the message has the input 0x01, and it is missing or unreadable
abbrev pub wms_request : (id : ℕ) → (input index : Option Value) → Option WmsRequest
wms_request id input index =
    if id == table.raw_send.id then option_map (λ message. RawSend) input
    else if id == table.raw_read.id then option_map RawRead (option_and_then index_in input)
    else if id == table.delete.id then option_map (λ storage. Delete (option_and_then word_in index)) input
    else if id == table.list_messages.id then option_map (λ storage. ListMessages) input
    else None

-- its line of the table
abbrev pub wms_row : WmsRequest → Row
wms_row RawSend = table.raw_send
wms_row (RawRead index) = table.raw_read
wms_row (Delete index) = table.delete
wms_row ListMessages = table.list_messages

-- ---- what is answered ----

-- the tag of a message that was received and read
-- Source: the enum QmiWmsMessageTagType in libqmi's src/libqmi-glib/qmi-enums-wms.h.
abbrev pub tag : ℕ
tag = 0

-- a message is sent, and isn't kept
abbrev pub sends : State → (number : ℕ) → Step
sends state n = record { answer = success (Some (number n) ∷ []); state = record state { sent = n } }

abbrev pub raw : List ℕ → Value
raw message = sequence_of (number tag ∷ number point_to_point ∷ bytes_of message ∷ [])

abbrev pub reads : State → Option (List ℕ) → Step
reads state None = refused state invalid_client_id
reads state (Some message) = answered state (Some (raw message) ∷ [])

-- the message with this index is deleted, if there is one
abbrev pub deletes : State → (index : ℕ) → Option (List ℕ) → Step
deletes state index None = refused state invalid_client_id
deletes state index (Some message) = record { answer = success []; state = without_message state index }

-- what is listed of a place of the storage
abbrev pub listed : ℕ × Option (List ℕ) → Option Value
listed (index, None) = None
listed (index, Some message) = Some (sequence_of (number index ∷ number tag ∷ []))

abbrev pub listing : State → Value
listing state = list (filter_map listed (enumerate_from 0 state.messages))

abbrev pub wms_step : State → WmsRequest → Step
wms_step state RawSend = sends state (number_after 65535 state.sent)
wms_step state (RawRead index) = reads state (message_at state index)
wms_step state (Delete None) = refused state invalid_client_id
wms_step state (Delete (Some index)) = deletes state index (message_at state index)
wms_step state ListMessages = answered state (Some (listing state) ∷ [])
