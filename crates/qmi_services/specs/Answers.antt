-- What the TLVs of an answer say, by the table.
-- Source: how libqmi's build-aux/qmi-codegen parses an answer.
use Rattle.std.specs.Prelude.{◌≡◌, ◌≢◌, ◌⊎◌, ℕ, true, false, List, [], ◌∷◌, ◌++◌, map, Option, Some, None, Result, Ok, Err}
use Rattle.tlv_codec.specs.Tlv.{tlv_value}
use Rattle.tlv_codec.specs.Outcome.{outcome_in}
use Rattle.qmi_shapes.specs.Form.{Form}
use Rattle.qmi_shapes.specs.View.{shape_view}
use Rattle.qmi_values.specs.Value.{Value}
use Rattle.qmi_values.specs.View.{val_view}
use Rattle.qmi_values.specs.Spelling.{Spells}
use Rattle.qmi_values.specs.Decoding.{SpellsNothing}
use Rattle.qmi_shapes.specs.WellMade.{IsWellMade}
use Rattle.qmi_services.specs.Table.{Output}
use Rattle.qmi_services.specs.declared.answers.Field.{Field}
use Rattle.qmi_services.specs.declared.answers.Fields.{Fields}
use Rattle.qmi_services.specs.declared.answers.QmiAnswer.{QmiAnswer}
use Rattle.qmi_services.specs.declared.answers.QmiAnswer.TheVariants.{Success, Failure}
use Rattle.qmi_services.specs.declared.answers.AnswerFault.{AnswerFault}
use Rattle.qmi_services.specs.declared.answers.AnswerFault.TheVariants.{Unread, OutOfMemory}

-- ---- success and failure ----

-- a status of 0 is success
abbrev pub IsSuccess : List ℕ → Type 0
IsSuccess tlvs = (error : ℕ) × (outcome_in tlvs ≡ Some (record { status = 0; error = error }))

abbrev pub IsFailure : List ℕ → ℕ → Type 0
IsFailure tlvs error = (status : ℕ) × (status ≢ 0) × (outcome_in tlvs ≡ Some (record { status = status; error = error }))

-- ---- the fields of a success ----

pub record FieldValue : Type 0 where
  pub name : List ℕ
  pub form : Form
  pub value : Value

abbrev pub named : Output → Value → FieldValue
named output value = record { name = output.tlv.name; form = output.tlv.form; value = value }

-- the field of a TLV of the table whose first value is this one, or none where it isn't there
abbrev pub Says : Output → Option (List ℕ) → List FieldValue → Type 0
Says output None fields = (output.needed ≡ false) × (fields ≡ [])
Says output (Some bytes) fields = (value : Value) × (fields ≡ named output value ∷ []) × Spells output.tlv.form value bytes

-- the fields of the TLVs of the table that are there, in its order
abbrev pub AllSay : List Output → List ℕ → List FieldValue → Type 0
AllSay [] tlvs fields = fields ≡ []
AllSay (output ∷ outputs) tlvs fields =
    (here : List FieldValue) × (later : List FieldValue) × (fields ≡ here ++ later) × Says output (tlv_value output.tlv.kind tlvs) here × AllSay outputs tlvs later

-- it is needed and isn't there, or its bytes spell no value
abbrev pub IsUnread : Output → Option (List ℕ) → Type 0
IsUnread output None = output.needed ≡ true
IsUnread output (Some bytes) = SpellsNothing output.tlv.form bytes

-- so is one TLV of the table
abbrev pub AnyUnread : List Output → List ℕ → Type 0
AnyUnread [] tlvs = ⊥
AnyUnread (output ∷ outputs) tlvs = IsUnread output (tlv_value output.tlv.kind tlvs) ⊎ AnyUnread outputs tlvs

-- ---- how TLVs read ----

pub data Reading : Type 0 where
  unread : Reading
  failure : ℕ → Reading
  success : List FieldValue → Reading

-- how the TLVs of an answer read that has these of the table
abbrev pub Reads : List Output → List ℕ → Reading → Type 0
Reads outputs tlvs unread = (outcome_in tlvs ≡ None) ⊎ (IsSuccess tlvs × AnyUnread outputs tlvs)
Reads outputs tlvs (failure error) = IsFailure tlvs error
Reads outputs tlvs (success fields) = IsSuccess tlvs × AllSay outputs tlvs fields

-- ---- what reading does ----

-- the TLVs' forms are well made
abbrev pub AreWellMade : List Output → Type 0
AreWellMade [] = Unit {0}
AreWellMade (output ∷ outputs) = IsWellMade output.tlv.form × AreWellMade outputs

-- this holds where the answer doesn't read
abbrev pub IfUnread : Type 0 → AnswerFault → Type 0
IfUnread Holds Unread = Holds
IfUnread Holds OutOfMemory = Unit {0}

-- the field of one TLV of the table was added, where it is there
abbrev pub AddsField : Output → List ℕ → List FieldValue → List FieldValue → Type 0
AddsField output tlvs old new = (here : List FieldValue) × (new ≡ old ++ here) × Says output (tlv_value output.tlv.kind tlvs) here

-- ---- answers ----

abbrev pub field_view : Field → FieldValue
field_view field = record { name = field.name; form = shape_view field.shape; value = val_view field.val }

abbrev pub fields_view : Fields → List FieldValue
fields_view fields = map field_view fields.fields.items

-- what an answer's TLVs say to a request whose answers have these of the table
abbrev pub Answers : List Output → List ℕ → Result QmiAnswer AnswerFault → Type 0
Answers outputs tlvs (Ok (Failure error)) = Reads outputs tlvs (failure error)
Answers outputs tlvs (Ok (Success fields)) = Reads outputs tlvs (success (fields_view fields))
Answers outputs tlvs (Err Unread) = Reads outputs tlvs unread
Answers outputs tlvs (Err OutOfMemory) = Unit {0}
