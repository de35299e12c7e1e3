-- Laws of the JSON of values.
use Rattle.std.specs.Prelude.{suc, ◌≤◌, nat_le, List, IsTrue}
use Rattle.std.specs.List.{list_all}
use Rattle.serde_json.specs.Data.{depth, object}
use Rattle.mbim_fields.specs.Layout.{Layout}
use Rattle.mbim_fields.specs.Value.{Value}
use Rattle.mbim_services.specs.Table.{rows}
use Rattle.fields_json.specs.Answers.{success_members}
use Rattle.fields_json.specs.Nesting.{nesting}

-- the JSON of a success nests no deeper than its layout
abbrev pub NestsAsItsLayout : Type 0
NestsAsItsLayout = (layout : Layout) (values : List Value) → depth (object (success_members layout values)) ≤ suc (nesting layout)

-- the layout of each command's answer nests at most so deep
abbrev pub AnswersAreShallow : Type 0
AnswersAreShallow = IsTrue (list_all (λ row. nat_le (nesting row.done) 4) rows)
