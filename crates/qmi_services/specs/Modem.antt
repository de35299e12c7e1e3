-- How a modem reads a request and writes a success, by the table.
use Rattle.std.specs.Prelude.{ℕ, ◌==◌, ◌&&◌, Bool, List, [], ◌∷◌, ◌++◌, Option, Some, None, IfSome, option_and_then, find}
use Rattle.std.specs.List.{AllByRecursion}
use Rattle.tlv_codec.specs.Tlv.{Entry}
use Rattle.qmi_shapes.specs.WellMade.{IsWellMade}
use Rattle.qmi_values.specs.Value.{Value}
use Rattle.tlv_values.specs.Spelling.{FitsTlv, spelling}
use Rattle.tlv_values.specs.Reading.{value_in}
use Rattle.message_tables.specs.Tlvs.{TlvForm}
use Rattle.qmi_services.specs.Table.{Output, Row, rows}
use Rattle.qmi_services.specs.Answers.{AreWellMade}

-- ---- the message ----

abbrev pub is_at : ℕ → ℕ → Row → Bool
is_at service id row = (row.service == service) && (row.id == id)

-- the line of the table with this service and this id
unfoldable pub row_at : ℕ → ℕ → Option Row
row_at service id = find (is_at service id) rows

-- the forms of its TLVs are well made
pub record IsWellMadeRow (row : Row) : Type 0 where
  pub input : AllByRecursion (λ input. IsWellMade input.form) row.input
  pub output : AreWellMade row.output

-- ---- what a request says ----

abbrev pub input_at : ℕ → List TlvForm → Option TlvForm
input_at kind inputs = find (λ input. input.kind == kind) inputs

-- the value of the first TLV of a type, where the message has an input of this type and the value reads
abbrev pub input_of : Row → ℕ → List ℕ → Option Value
input_of row kind tlvs = option_and_then (λ input. value_in kind input.form tlvs) (input_at kind row.input)

-- ---- what a success says ----

-- as many values as outputs, and each that is given is of its output's form and has room in a TLV
abbrev pub FitOutputs : List Output → List (Option Value) → Type 0
FitOutputs [] [] = Unit {0}
FitOutputs (output ∷ outputs) (value ∷ values) = IfSome value (FitsTlv output.tlv.form) × FitOutputs outputs values
FitOutputs outputs values = ⊥

-- the TLV of an output, where its value is given
abbrev pub output_tlv : Output → Option Value → List Entry
output_tlv output None = []
output_tlv output (Some value) = record { kind = output.tlv.kind; value = spelling output.tlv.form value } ∷ []

-- the TLVs of the outputs whose values are given, in their order
abbrev pub output_tlvs : List Output → List (Option Value) → List Entry
output_tlvs (output ∷ outputs) (value ∷ values) = output_tlv output value ++ output_tlvs outputs values
output_tlvs outputs values = []
