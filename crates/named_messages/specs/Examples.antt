-- The lines of a message of libqmi's descriptions, of TLVs, and of a list.
-- Source: `Set Operating Mode` in libqmi's data/qmi-service-dms.json, the first two TLVs that `Verify PIN` takes in data/qmi-service-uim.json, `Strength List` of
-- `Get Signal Strength` in data/qmi-service-nas.json, and what they refer to in data/qmi-common.json.
use Rattle.std.specs.Prelude.{◌≡◌, List, [], ◌∷◌, ◌++◌, codes, false}
use Rattle.qmi_shapes.specs.declared.shape.Prefix.TheVariants.{Counted}
use Rattle.qmi_shapes.specs.Form.{Form, unsigned, signed, string, array, sequence, no_fields, field}
use Rattle.message_tables.specs.Messages.{MessageForm, message_form}
use Rattle.message_tables.specs.Tlvs.{TlvForm, tlv_with}
use Rattle.named_messages.specs.Described.{form_text, section, message_text}

-- ---- a message ----

abbrev pub set_operating_mode : MessageForm
set_operating_mode =
    message_form (codes "Set Operating Mode") 2 false 0x2e (tlv_with (codes "Mode") (unsigned 1) 0x01 ∷ [])
    (tlv_with (codes "Result") (sequence (field (codes "Error Status") (unsigned 2) (field (codes "Error Code") (unsigned 2) no_fields))) 0x02 ∷ [])

abbrev pub ModeIsDescribed : Type 0
ModeIsDescribed =
    message_text set_operating_mode
    ≡ codes "Set Operating Mode: message 0x002E of service 2\ntakes:\n  Mode: number, 0 to 255\n" ++ codes "gives:\n  Result: object\n    Error Status: number, 0 to 65535\n    Error Code: number, 0 to 65535\n"

-- ---- TLVs ----

abbrev pub pin_tlvs : List TlvForm
pin_tlvs =
    tlv_with (codes "Session") (sequence (field (codes "Session Type") (unsigned 1) (field (codes "Application Identifier") (array (Counted 1) (unsigned 1)) no_fields))) 0x01
    ∷ tlv_with (codes "Info") (sequence (field (codes "PIN ID") (unsigned 1) (field (codes "PIN Value") (string (Counted 1)) no_fields))) 0x02 ∷ []

abbrev pub PinIsDescribed : Type 0
PinIsDescribed =
    section (codes "takes") pin_tlvs
    ≡ codes "takes:\n  Session: object\n    Session Type: number, 0 to 255\n    Application Identifier: hexadecimal digits, up to 255 bytes\n"
    ++ codes "  Info: object\n    PIN ID: number, 0 to 255\n    PIN Value: text, up to 255 bytes\n"

-- ---- a list ----

abbrev pub strengths : Form
strengths = array (Counted 2) (sequence (field (codes "Strength") (signed 1) (field (codes "Radio Interface") (signed 1) no_fields)))

abbrev pub ListIsDescribed : Type 0
ListIsDescribed =
    form_text (codes "  ") (codes "Strength List") strengths
    ≡ codes "  Strength List: list, up to 65535 elements\n    each: object\n" ++ codes "      Strength: number, -128 to 127\n      Radio Interface: number, -128 to 127\n"
