-- The bytes of the message that a request sends.
-- Source: the inputs in libqmi's data/qmi-service-*.json, and how its src/qmicli/qmicli-*.c fill them.
use Rattle.std.specs.Prelude.{ℕ, List, [], ◌∷◌, ◌++◌, length, Option, Some, None}
use Rattle.std.specs.Str.{encode_utf8_all}
use Rattle.kit_bytes.specs.Numbers.{u16_bytes, u32_bytes}
use Rattle.tlv_codec.specs.Tlv.{Entry}
use Rattle.qmi_requests.specs.declared.QmiRequest.{QmiRequest}
use Rattle.qmi_requests.specs.declared.QmiRequest.TheVariants as request
pub use Rattle.qmi_services.specs.Table.{row_of}

-- ---- the TLVs ----

abbrev pub tlv : ℕ → List ℕ → List Entry
tlv kind value = record { kind = kind; value = value } ∷ []

-- a TLV of a text or a byte, where it is given
abbrev pub text_given : ℕ → Option (List ℕ) → List Entry
text_given kind None = []
text_given kind (Some text) = tlv kind (encode_utf8_all text)

abbrev pub byte_given : ℕ → Option ℕ → List Entry
byte_given kind None = []
byte_given kind (Some byte) = tlv kind (byte ∷ [])

-- the settings that Get Current Settings asks for, one bit for each
abbrev pub wanted_settings : ℕ
wanted_settings = 0x2310

-- the format of 3GPP's point-to-point messages
-- Source: the enum QmiWmsMessageFormat in libqmi's src/libqmi-glib/qmi-enums-wms.h.
abbrev pub point_to_point : ℕ
point_to_point = 6

-- the TLVs that a request sends, in the order of the table
abbrev pub inputs_of : QmiRequest → List Entry
inputs_of (request.DmsSetOperatingMode mode) = tlv 0x01 (mode ∷ [])
inputs_of (request.WdsStartNetwork apn username password ip_type) = text_given 0x14 apn ++ text_given 0x17 username ++ text_given 0x18 password ++ byte_given 0x19 ip_type
inputs_of (request.WdsStopNetwork handle) = tlv 0x01 (u32_bytes handle)
inputs_of request.WdsGetCurrentSettings = tlv 0x10 (u32_bytes wanted_settings)
inputs_of (request.WmsRawSend pdu) = tlv 0x01 (point_to_point ∷ u16_bytes (length pdu) ++ pdu)
inputs_of (request.WmsRawRead storage index) = tlv 0x01 (storage ∷ u32_bytes index)
inputs_of (request.WmsDelete storage index) = tlv 0x01 (storage ∷ []) ++ tlv 0x10 (u32_bytes index)
inputs_of (request.WmsListMessages storage) = tlv 0x01 (storage ∷ [])
inputs_of (request.ProxyOpen path) = tlv 0x01 (encode_utf8_all path)
inputs_of (request.Allocate service) = tlv 0x01 (service ∷ [])
inputs_of (request.Release service cid) = tlv 0x01 (service ∷ cid ∷ [])
inputs_of _ = []
