-- The values of requests, and which TLVs give them.
use Rattle.std.specs.Prelude.{◌≡◌, ℕ, ◌^◌, ◌<◌, ◌≤◌, List, [], ◌∷◌, ◌++◌, length, map, slice_index, Option, Some, None, IfSome, option_map}
use Rattle.std.specs.Str.{encode_utf8_all}
use Rattle.tlv_codec.specs.Tlv.{Entry}
use Rattle.qmi_values.specs.Value.{Value, number, text, elements, members, values_of as as_values}
use Rattle.qmi_values.specs.Spelling.{Spells}
use Rattle.message_tables.specs.Tlvs.{TlvForm}
use Rattle.qmi_requests.specs.declared.QmiRequest.{QmiRequest}
use Rattle.qmi_requests.specs.declared.QmiRequest.TheVariants as request
use Rattle.qmi_services.specs.Requests.{tlv, point_to_point, wanted_settings}

abbrev pub text_of : List ℕ → Value
text_of characters = text (encode_utf8_all characters)

abbrev pub sequence_of : List Value → Value
sequence_of values = members (as_values values)

abbrev pub bytes_of : List ℕ → Value
bytes_of bytes = elements (as_values (map number bytes))

-- the values of the inputs of a request's message, with None for one that isn't sent
abbrev pub values_of : QmiRequest → List (Option Value)
values_of (request.DmsSetOperatingMode mode) = Some (number mode) ∷ []
values_of (request.WdsStartNetwork apn username password ip_type) = option_map text_of apn ∷ option_map text_of username ∷ option_map text_of password ∷ option_map number ip_type ∷ []
values_of (request.WdsStopNetwork handle) = Some (number handle) ∷ []
values_of request.WdsGetCurrentSettings = Some (number wanted_settings) ∷ []
values_of (request.WmsRawSend pdu) = Some (sequence_of (number point_to_point ∷ bytes_of pdu ∷ [])) ∷ []
values_of (request.WmsRawRead storage index) = Some (sequence_of (number storage ∷ number index ∷ [])) ∷ []
values_of (request.WmsDelete storage index) = Some (number storage) ∷ Some (number index) ∷ []
values_of (request.WmsListMessages storage) = Some (number storage) ∷ []
values_of (request.ProxyOpen path) = Some (text_of path) ∷ []
values_of (request.Allocate service) = Some (number service) ∷ []
values_of (request.Release service cid) = Some (sequence_of (number service ∷ number cid ∷ [])) ∷ []
values_of _ = []

-- the TLV of an input that has this value, if it has one
abbrev pub Gives : TlvForm → Option Value → List Entry → Type 0
Gives input None entries = entries ≡ []
Gives input (Some value) entries = (bytes : List ℕ) × (entries ≡ tlv input.kind bytes) × Spells input.form value bytes

-- the TLVs of all inputs, one after another
abbrev pub AllGive : List TlvForm → List (Option Value) → List Entry → Type 0
AllGive [] [] entries = entries ≡ []
AllGive (input ∷ inputs) (value ∷ values) entries = (here : List Entry) × (later : List Entry) × (entries ≡ here ++ later) × Gives input value here × AllGive inputs values later
AllGive _ _ entries = ⊥

-- what the types of a request's values say of them
abbrev pub IsInRange : QmiRequest → Type 0
IsInRange (request.DmsSetOperatingMode mode) = mode < 2 ^ 8
IsInRange (request.WdsStartNetwork apn username password ip_type) = IfSome ip_type (λ byte. byte < 2 ^ 8)
IsInRange (request.WdsStopNetwork handle) = handle < 2 ^ 32
IsInRange (request.WmsRawSend pdu) = (length pdu ≤ 255) × ((at : ℕ) → slice_index pdu at < 2 ^ 8)
IsInRange (request.WmsRawRead storage index) = (storage < 2 ^ 8) × (index < 2 ^ 32)
IsInRange (request.WmsDelete storage index) = (storage < 2 ^ 8) × (index < 2 ^ 32)
IsInRange (request.WmsListMessages storage) = storage < 2 ^ 8
IsInRange (request.Allocate service) = service < 2 ^ 8
IsInRange (request.Release service cid) = (service < 2 ^ 8) × (cid < 2 ^ 8)
IsInRange _ = Unit {0}
