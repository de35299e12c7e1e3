-- What is printed of answers has no float.
use Rattle.std.proofs.Common.{◌≡◌, ℕ, List, [], ◌∷◌, false, Option, Some, None, codes, encode_utf8_all, refl}
use Rattle.serde_json.specs.Data.{unsigned as natural, number as numeral, string as quoted, object, Members, no_members, put}
use Rattle.serde_json.specs.Written.{members_have_float}
use Rattle.qmi_services.specs.declared.answers.QmiAnswer.{QmiAnswer}
use Rattle.qmi_services.specs.declared.answers.QmiAnswer.TheVariants.{Success, Failure}
use Rattle.qmi_services.specs.Answers.{FieldValue, fields_view}
use Rattle.json_values.specs.declared.ending.Ending.{Ending}
use Rattle.json_values.specs.declared.ending.Ending.TheVariants as ending
use Rattle.json_values.specs.Showing.{Showing}
use Rattle.json_values.specs.Json.{with_field}
use Rattle.json_values.specs.Ends.{with_error, with_ending, with_values, with_kept, answer_members}
use Rattle.json_values.proofs.JsonMembers.{put-no_float}
use Rattle.json_values.proofs.Shallow.{with_field-no_float}

with_error-no_float : (word : List ℕ) (number : ℕ) (so_far : Members) → members_have_float so_far ≡ false → members_have_float (with_error word number so_far) ≡ false
with_error-no_float word number so_far none =
    put-no_float (codes "result") (quoted word) (put (codes "error") (numeral (natural number)) so_far) refl (put-no_float (codes "error") (numeral (natural number)) so_far refl none)

pub with_ending-no_float : (end : Ending) (so_far : Members) → members_have_float so_far ≡ false → members_have_float (with_ending end so_far) ≡ false
with_ending-no_float ending.Success so_far none = put-no_float (codes "result") (quoted (codes "ok")) so_far refl none
with_ending-no_float (ending.Denied error) so_far none = with_error-no_float (codes "denied") error so_far none
with_ending-no_float (ending.FunctionError error) so_far none = with_error-no_float (codes "function error") error so_far none

with_values-no_float : (showing : Showing) (fields : List FieldValue) (so_far : Members) → members_have_float so_far ≡ false → members_have_float (with_values showing fields so_far) ≡ false
with_values-no_float showing [] so_far none = none
with_values-no_float showing (field ∷ more) so_far none =
    with_values-no_float showing more (with_field showing (encode_utf8_all field.name) field.form field.value so_far) (with_field-no_float showing (encode_utf8_all field.name) field.form field.value so_far none)

pub with_kept-no_float : (kept : Option (ℕ × ℕ)) (so_far : Members) → members_have_float so_far ≡ false → members_have_float (with_kept kept so_far) ≡ false
with_kept-no_float None so_far none = none
with_kept-no_float (Some kept) so_far none =
    let service : Members = put (codes "service") (numeral (natural kept.0)) no_members in
    put-no_float (codes "client id kept") (object (put (codes "id") (numeral (natural kept.1)) service)) so_far (put-no_float (codes "id") (numeral (natural kept.1)) service refl refl) none

pub answer-no_float : (showing : Showing) (answer : QmiAnswer) (kept : Option (ℕ × ℕ)) → members_have_float (answer_members showing answer kept) ≡ false
answer-no_float showing (Success fields) kept =
    let fields_in : Members = with_values showing (fields_view fields) no_members in
    with_ending-no_float ending.Success (with_kept kept fields_in) (with_kept-no_float kept fields_in (with_values-no_float showing (fields_view fields) no_members refl))
answer-no_float showing (Failure error) kept = with_ending-no_float (ending.Denied error) no_members refl
