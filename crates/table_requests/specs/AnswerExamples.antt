-- Worked examples of answers and indications, against their text in JSON.
-- Source: RFC 8259, section 4; libqmi's data/qmi-service-nas.json has TLVs of these forms.
use Rattle.std.specs.Prelude.{◌≡◌, ℕ, List, [], ◌∷◌, codes, option_map, Option, Some, None}
use Rattle.qmi_shapes.specs.Form.{unsigned, signed}
use Rattle.message_tables.specs.Tlvs.{TlvForm}
use Rattle.tlv_codec.specs.Outcome.{outcome_in}
use Rattle.json_values.specs.Showing.{by_qmicli}
use Rattle.json_values.specs.Lines.{json_line}
use Rattle.table_requests.specs.Messages.{answer_json, indication_json}

abbrev pub forms : List TlvForm
forms = record { kind = 16; name = codes "Strength"; form = signed 1 } ∷ record { kind = 17; name = codes "Level"; form = unsigned 2 } ∷ record { kind = 18; name = codes "Mode"; form = unsigned 1 } ∷ []

-- the line of an answer that has a result
abbrev line_of : List ℕ → Option (ℕ × ℕ) → Option (List ℕ)
line_of answer kept = option_map (λ outcome. json_line (answer_json by_qmicli forms answer kept outcome)) (outcome_in answer)

-- a TLV that the table has, a second one of its type, one whose value doesn't read, one that the table lacks, and a word
abbrev pub tlvs : List ℕ
tlvs =
    2 ∷ 4 ∷ 0 ∷ 0 ∷ 0 ∷ 0 ∷ 0 ∷ 16 ∷ 1 ∷ 0 ∷ 181 ∷ 16 ∷ 1 ∷ 0 ∷ 9 ∷ 17 ∷ 1 ∷ 0 ∷ 5 ∷ 171 ∷ 2 ∷ 0 ∷ 1 ∷ 205 ∷ 18 ∷ 1 ∷ 0 ∷ 1 ∷ []

abbrev pub AnswerHasItsTlvs : Type 0
AnswerHasItsTlvs =
    line_of tlvs None
    ≡ Some (codes "{\"0x11\":\"05\",\"0xAB\":\"01CD\",\"Mode\":1,\"Mode word\":\"low-power\",\"Strength\":-75,\"result\":\"ok\"}\n")

-- what is kept stands beside them
abbrev pub AnswerHasWhatIsKept : Type 0
AnswerHasWhatIsKept =
    line_of (2 ∷ 4 ∷ 0 ∷ 0 ∷ 0 ∷ 0 ∷ 0 ∷ 18 ∷ 1 ∷ 0 ∷ 9 ∷ []) (Some (3, 7)) ≡ Some (codes "{\"Mode\":9,\"client id kept\":{\"id\":7,\"service\":3},\"result\":\"ok\"}\n")

-- a failure has its error, and what else it tells
abbrev pub FailureHasItsError : Type 0
FailureHasItsError =
    line_of (2 ∷ 4 ∷ 0 ∷ 1 ∷ 0 ∷ 14 ∷ 0 ∷ 18 ∷ 1 ∷ 0 ∷ 9 ∷ []) None ≡ Some (codes "{\"Mode\":9,\"error\":14,\"result\":\"denied\"}\n")

-- bytes that aren't whole TLVs have no result
abbrev pub BrokenHasNoLine : Type 0
BrokenHasNoLine = line_of (2 ∷ 4 ∷ 0 ∷ 0 ∷ 0 ∷ 0 ∷ 0 ∷ 16 ∷ []) None ≡ None

-- in an indication the type of the Result TLV is one as any other
abbrev pub IndicationHasItsName : Type 0
IndicationHasItsName =
    json_line (indication_json by_qmicli (codes "Event Report") forms (2 ∷ 1 ∷ 0 ∷ 7 ∷ 16 ∷ 1 ∷ 0 ∷ 5 ∷ [])) ≡ codes "{\"0x02\":\"07\",\"Strength\":5,\"indication\":\"Event Report\"}\n"
