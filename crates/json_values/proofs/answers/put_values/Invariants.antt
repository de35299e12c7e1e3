use Rattle.std.proofs.Common.{◌≡◌, drop, map}
use Rattle.serde_json.specs.View.{members_view}
use Rattle.qmi_services.specs.Answers.{field_view}
use Rattle.json_values.specs.Ends.{with_values}
use Rattle.json_values.proofs.answers.put_values.Given as goal

abbrev pub invariant-loop-field : goal.invariant-loop-field
invariant-loop-field g l =
    with_values (g.S.Shows.showing l.shows) (map field_view (drop l.field-index l.fields)) (members_view l.members.entries) ≡ with_values (g.S.Shows.showing l.shows) (map field_view l.fields) (members_view l.initial.members.entries)
