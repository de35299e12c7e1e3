-- Worked examples of values and answers, against their text in JSON.
-- Source: RFC 8259, sections 4 to 7; forms of libqmi's data/qmi-service-*.json.
use Rattle.std.specs.Prelude.{◌≡◌, ℕ, negsuc, List, [], ◌∷◌, ◌++◌, true, false, codes, Some}
use Rattle.serde_json.specs.Data.{object, no_members, Members}
use Rattle.qmi_shapes.specs.declared.shape.Prefix.TheVariants.{Counted}
use Rattle.qmi_shapes.specs.Form.{Form, unsigned, signed, array, sequence, no_fields, field}
use Rattle.qmi_values.specs.Value.{Value, number, integer, text, elements, members, values_of}
use Rattle.json_values.specs.Examples.{pin_form, bytes_form}
use Rattle.json_values.specs.declared.ending.Ending.TheVariants.{Success, Denied}
use Rattle.json_values.specs.Showing.{by_qmicli, plainly}
use Rattle.json_values.specs.Json.{json_of, text_json, with_field}
use Rattle.json_values.specs.Lines.{json_line, json_text}
use Rattle.json_values.specs.Ends.{with_ending, with_kept}

-- ---- values ----

-- a sequence is an object, by its fields' names
abbrev pub PinIsAnObject : Type 0
PinIsAnObject = json_text (json_of plainly false pin_form (members (values_of (number 1 ∷ text (codes "1234") ∷ [])))) ≡ codes "{\"PIN ID\":1,\"PIN Value\":\"1234\"}"

-- a quotation mark, a reverse solidus and control characters are escaped
abbrev pub TextIsEscaped : Type 0
TextIsEscaped = json_text (text_json (codes "a\"b\\c/" ++ 10 ∷ 31 ∷ 127 ∷ [])) ≡ codes "\"a\\\"b\\\\c/\\n\\u001f" ++ 127 ∷ 34 ∷ []

-- a text that isn't UTF-8 stands by its bytes
abbrev pub OtherTextHasDigits : Type 0
OtherTextHasDigits = json_text (text_json (65 ∷ 255 ∷ [])) ≡ codes "{\"hex\":\"41FF\"}"

-- so do the bytes of a field that `qmicli` shows in hexadecimal, and other lists stand with their elements
abbrev pub BytesHaveDigits : Type 0
BytesHaveDigits = json_text (json_of by_qmicli true bytes_form (elements (values_of (number 10 ∷ number 255 ∷ [])))) ≡ codes "\"0AFF\""

abbrev pub ListIsAnArray : Type 0
ListIsAnArray = json_text (json_of by_qmicli false (array (Counted 1) (signed 2)) (elements (values_of (integer (negsuc 74) ∷ integer (negsuc 0) ∷ [])))) ≡ codes "[-75,-1]"

-- ---- members ----

abbrev pub line_of : Members → List ℕ
line_of so_far = json_line (object so_far)

-- a word stands beside its number
abbrev pub WordStandsBeside : Type 0
WordStandsBeside = line_of (with_ending Success (with_field by_qmicli (codes "Mode") (unsigned 1) (number 1) no_members)) ≡ codes "{\"Mode\":1,\"Mode word\":\"low-power\",\"result\":\"ok\"}\n"

-- so does one in a list of sequences
abbrev pub services_form : Form
services_form = array (Counted 1) (sequence (field (codes "Service") (unsigned 1) (field (codes "Major") (unsigned 2) (field (codes "Minor") (unsigned 2) no_fields))))

abbrev pub ServiceHasItsWord : Type 0
ServiceHasItsWord =
    line_of (with_field by_qmicli (codes "Service list") services_form (elements (values_of (members (values_of (number 2 ∷ number 1 ∷ number 3 ∷ [])) ∷ []))) no_members)
    ≡ codes "{\"Service list\":[{\"Major\":1,\"Minor\":3,\"Service\":2,\"Service word\":\"dms\"}]}\n"

-- and an IPv4 address
abbrev pub AddressIsSpelled : Type 0
AddressIsSpelled = line_of (with_field by_qmicli (codes "Gateway") (unsigned 4) (number 167772161) no_members) ≡ codes "{\"Gateway\":167772161,\"Gateway word\":\"10.0.0.1\"}\n"

-- ---- answers ----

abbrev pub DenialHasItsNumber : Type 0
DenialHasItsNumber = line_of (with_ending (Denied 3) no_members) ≡ codes "{\"error\":3,\"result\":\"denied\"}\n"

-- a client id that is kept
abbrev pub KeptIdIsTold : Type 0
KeptIdIsTold = line_of (with_ending Success (with_kept (Some (2, 5)) no_members)) ≡ codes "{\"client id kept\":{\"id\":5,\"service\":2},\"result\":\"ok\"}\n"
