-- What is printed of a session's end.
use Rattle.std.specs.Prelude.{ℕ, List, [], ◌++◌, Option, Some, None, codes, decimal, encode_utf8_all}
use Rattle.std.specs.List.{flat_map}
use Rattle.qmi_services.specs.declared.answers.QmiAnswer.{QmiAnswer}
use Rattle.qmi_services.specs.declared.answers.QmiEnd.{QmiEnd}
use Rattle.qmi_services.specs.declared.answers.QmiAnswer.TheVariants.{Success, Failure}
use Rattle.qmi_services.specs.Answers.{FieldValue, fields_view}
use Rattle.print_text.specs.Lines.{spaces, or_ok}
use Rattle.print_text.specs.declared.wording.Wording.TheVariants.{WithWords}
use Rattle.qmicli_print.specs.Printed.{value_text}

abbrev pub field_text : FieldValue → List ℕ
field_text field = value_text WithWords field.form (spaces 0) (encode_utf8_all field.name) field.value

unfoldable pub kept_line : ℕ → ℕ → List ℕ
kept_line service id = codes "client id kept: service " ++ decimal service ++ codes ", id " ++ decimal id ++ codes "\n"

abbrev pub kept_text : Option (ℕ × ℕ) → List ℕ
kept_text None = []
kept_text (Some kept) = kept_line kept.0 kept.1

-- the fields of a success, at level 0, and what is kept; nothing of a failure
abbrev answer_text : QmiAnswer → Option (ℕ × ℕ) → List ℕ
answer_text (Success fields) kept = or_ok (flat_map field_text (fields_view fields)) ++ kept_text kept
answer_text (Failure error) kept = []

abbrev pub end_text : QmiEnd → List ℕ
end_text end = answer_text end.answer end.kept
