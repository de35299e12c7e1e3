-- What is printed of an answer.
use Rattle.std.specs.Prelude.{ℕ, List, []}
use Rattle.mbim_fields.specs.Layout.{Layout}
use Rattle.mbim_fields.specs.Value.{Value, list_of}
use Rattle.mbim_fields.specs.View.{shape_view, val_view}
use Rattle.mbim_services.specs.declared.answers.MbimAnswer.{MbimAnswer}
use Rattle.mbim_services.specs.declared.answers.MbimAnswer.TheVariants.{Success, Failure}
use Rattle.print_text.specs.Lines.{spaces, or_ok}
use Rattle.print_text.specs.declared.wording.Wording.TheVariants.{WithWords}
use Rattle.mbimcli_print.specs.Printed.{fields_text}

-- the fields of a layout, at level 0
abbrev pub printed : Layout → List Value → List ℕ
printed layout values = or_ok (fields_text WithWords layout 0 (spaces 0) values)

-- the fields of a success; nothing of a failure
abbrev pub answer_text : MbimAnswer → List ℕ
answer_text (Success shape val) = printed (shape_view shape) (list_of (val_view val))
answer_text (Failure status) = []
