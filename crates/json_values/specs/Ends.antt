-- What a session's end is as one JSON object: its fields by their names, and then its result.
use Rattle.std.specs.Prelude.{ℕ, List, [], ◌∷◌, Option, Some, None, codes, encode_utf8_all}
use Rattle.serde_json.specs.Data.{unsigned as natural, number as numeral, string as quoted, Data, object, Members, no_members, put}
use Rattle.qmi_services.specs.declared.answers.QmiAnswer.{QmiAnswer}
use Rattle.qmi_services.specs.declared.answers.QmiAnswer.TheVariants.{Success, Failure}
use Rattle.qmi_services.specs.declared.answers.QmiEnd.{QmiEnd}
use Rattle.qmi_services.specs.Answers.{FieldValue, fields_view}
use Rattle.json_values.specs.declared.ending.Ending.{Ending}
use Rattle.json_values.specs.declared.ending.Ending.TheVariants as ending
use Rattle.json_values.specs.Showing.{Showing}
use Rattle.json_values.specs.Json.{with_field}

-- ---- the result ----

abbrev pub with_error : List ℕ → ℕ → Members → Members
with_error word number so_far = put (codes "result") (quoted word) (put (codes "error") (numeral (natural number)) so_far)

-- in the words of a status's line; the last members of a name count, so a field called so doesn't hide them
abbrev pub with_ending : Ending → Members → Members
with_ending ending.Success so_far = put (codes "result") (quoted (codes "ok")) so_far
with_ending (ending.Denied error) so_far = with_error (codes "denied") error so_far
with_ending (ending.FunctionError error) so_far = with_error (codes "function error") error so_far

-- ---- fields that were read ----

-- these members, and behind them the fields
abbrev pub with_values : Showing → List FieldValue → Members → Members
with_values showing [] so_far = so_far
with_values showing (field ∷ more) so_far = with_values showing more (with_field showing (encode_utf8_all field.name) field.form field.value so_far)

-- the service and the client id that are kept
abbrev pub with_kept : Option (ℕ × ℕ) → Members → Members
with_kept None so_far = so_far
with_kept (Some kept) so_far =
    put (codes "client id kept") (object (put (codes "id") (numeral (natural kept.1)) (put (codes "service") (numeral (natural kept.0)) no_members))) so_far

abbrev pub success_members : Showing → List FieldValue → Option (ℕ × ℕ) → Members
success_members showing fields kept = with_ending ending.Success (with_kept kept (with_values showing fields no_members))

abbrev pub failure_members : ℕ → Members
failure_members error = with_ending (ending.Denied error) no_members

abbrev pub answer_members : Showing → QmiAnswer → Option (ℕ × ℕ) → Members
answer_members showing (Success fields) kept = success_members showing (fields_view fields) kept
answer_members showing (Failure error) kept = failure_members error

abbrev pub end_json : Showing → QmiEnd → Data
end_json showing end = object (answer_members showing end.answer end.kept)
