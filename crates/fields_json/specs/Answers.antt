-- What an answer is as one JSON object: its fields by their names, and then its result.
use Rattle.std.specs.Prelude.{List}
use Rattle.serde_json.specs.Data.{Data, object, Members, no_members}
use Rattle.mbim_fields.specs.Layout.{Layout}
use Rattle.mbim_fields.specs.Value.{Value, list_of}
use Rattle.mbim_fields.specs.View.{shape_view, val_view}
use Rattle.mbim_services.specs.declared.answers.MbimAnswer.{MbimAnswer}
use Rattle.mbim_services.specs.declared.answers.MbimAnswer.TheVariants.{Success, Failure}
use Rattle.json_values.specs.declared.ending.Ending.TheVariants as ending
use Rattle.json_values.specs.Ends.{with_ending}
use Rattle.fields_json.specs.Json.{with_fields}

-- the fields of a layout
abbrev pub success_members : Layout → List Value → Members
success_members layout values = with_ending ending.Success (with_fields layout 0 values no_members)

abbrev pub answer_members : MbimAnswer → Members
answer_members (Success shape val) = success_members (shape_view shape) (list_of (val_view val))
answer_members (Failure status) = with_ending (ending.Denied status) no_members

abbrev pub answer_json : MbimAnswer → Data
answer_json answer = object (answer_members answer)
