-- What a modem sends by a rule. To a message that is no whole request it sends nothing.
use Rattle.std.specs.Prelude.{ℕ, ◌%◌, ◌^◌, List, [], ◌++◌, length, Option, Some, None}
use Rattle.kit_bytes.specs.declared.Kind.{Kind}
use Rattle.kit_bytes.specs.declared.Kind.TheVariants.{Qmi, Mbim}
use Rattle.qmux_frame.specs.declared.head.Head.{Head}
use Rattle.qmux_frame.specs.declared.kind.MessageKind.TheVariants as qmi
use Rattle.qmux_frame.specs.declared.writing.Sender.TheVariants as sender
use Rattle.qmux_frame.specs.Kind.{flags_for}
use Rattle.qmux_frame.specs.Reply.{reply_to, result_tlv}
use Rattle.qmux_frame.specs.Writing.{message_text}
use Rattle.mbim_frame.specs.declared.bodies.CommandHead.{CommandHead}
use Rattle.mbim_frame.specs.declared.kind.MessageKind.TheVariants.{CommandDone, IndicateStatus}
use Rattle.mbim_frame.specs.Bodies.{done_text}
use Rattle.mbim_frame.specs.Head.{number_of}
use Rattle.mbim_frame.specs.Kinds.{kind_number}
use Rattle.mbim_frame.specs.Numbers.{u32_bytes}
use Rattle.mbim_fragments.specs.Splitting.{split}
use Rattle.modem_rules.specs.declared.kind.RequestKind.{RequestKind}
use Rattle.modem_rules.specs.declared.kind.RequestKind.TheVariants.{Message, Command}
use Rattle.ruled_modem.specs.Requests.{request_in, command_in}

-- ---- replies ----

-- the reply to a command, in messages of at most so many bytes
abbrev pub done : (longest number : ℕ) → CommandHead → (status : ℕ) → (buffer : List ℕ) → List ℕ
done longest number head status buffer = split (kind_number CommandDone) number longest (done_text (record { uuid = head.uuid; cid = head.cid; status = status }) buffer)

abbrev pub done_if : (longest number : ℕ) → Option CommandHead → (status : ℕ) → (buffer : List ℕ) → List ℕ
done_if longest number None status buffer = []
done_if longest number (Some head) status buffer = done longest number head status buffer

abbrev pub response_if : Option Head → (error : ℕ) → (tlvs : List ℕ) → List ℕ
response_if None error tlvs = []
response_if (Some head) error tlvs = message_text (reply_to head) (result_tlv error ++ tlvs)

-- with this error in the Result TLV, which has 16 bits, and these TLVs behind it, or with this status and buffer; 0 is a success
abbrev pub reply : Kind → (longest : ℕ) → (message : List ℕ) → (error : ℕ) → (bytes : List ℕ) → List ℕ
reply Qmi longest message error bytes = response_if (request_in message) (error % 2 ^ 16) bytes
reply Mbim longest message error bytes = done_if longest (number_of message) (command_in message) error bytes

-- ---- indications ----

-- to every client of a service
abbrev pub message_told : (service message : ℕ) → (tlvs : List ℕ) → List ℕ
message_told service message tlvs = message_text (record { sender = sender.Modem; service = service; cid = 255; flags = flags_for service qmi.Indication; number = 0; message = message }) tlvs

abbrev pub command_told : (longest : ℕ) → (service : List ℕ) → (command : ℕ) → (buffer : List ℕ) → List ℕ
command_told longest service command buffer = split (kind_number IndicateStatus) 0 longest (service ++ u32_bytes command ++ u32_bytes (length buffer) ++ buffer)

abbrev pub indication : (longest : ℕ) → RequestKind → (bytes : List ℕ) → List ℕ
indication longest (Message service message) bytes = message_told service message bytes
indication longest (Command service command) bytes = command_told longest service command bytes
