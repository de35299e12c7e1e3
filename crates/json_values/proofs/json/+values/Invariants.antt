use Rattle.std.proofs.Common.{◌≡◌, ◌+◌, ◌*◌, false, map, take, drop}
use Rattle.serde_json.specs.View.{members_view, view}
use Rattle.qmi_shapes.specs.View.{fields_of, field_view, fields_view, shape_view}
use Rattle.qmi_values.specs.View.{val_view}
use Rattle.message_tables.proofs.Weights.{weight, fields_weight}
use Rattle.json_values.specs.Json.{json_of, with_fields}
use Rattle.json_values.proofs.json.+values.Given as goal

abbrev pub decreases-json_of : goal.decreases-json_of
decreases-json_of g l = 4 * weight (shape_view l.shape.now)

abbrev pub decreases-array_json : goal.decreases-array_json
decreases-array_json g l = 4 * weight (shape_view l.element.now) + 3

abbrev pub decreases-list_json : goal.decreases-list_json
decreases-list_json g l = 4 * weight (shape_view l.element.now) + 2

abbrev pub decreases-elements_json : goal.decreases-elements_json
decreases-elements_json g l = 4 * weight (shape_view l.element.now) + 1

abbrev pub decreases-sequence_json : goal.decreases-sequence_json
decreases-sequence_json g l = 4 * fields_weight (fields_view l.fields.now) + 2

abbrev pub decreases-object_json : goal.decreases-object_json
decreases-object_json g l = 4 * fields_weight (fields_of (map field_view l.fields.now)) + 1

abbrev pub decreases-put_fields : goal.decreases-put_fields
decreases-put_fields g l = 4 * fields_weight (fields_of (map field_view l.fields.now))

abbrev pub decreases-put_field : goal.decreases-put_field
decreases-put_field g l = 4 * weight (shape_view l.shape.now) + 1

abbrev pub invariant-elements_json-loop-val : goal.invariant-elements_json-loop-val
invariant-elements_json-loop-val g l = map view l.items.items ≡ map (json_of (g.S.Shows.showing l.shows) false (shape_view l.element)) (map val_view (take l.val-index l.vals))

abbrev pub invariant-put_fields-loop-index : goal.invariant-put_fields-loop-index
invariant-put_fields-loop-index g l =
    with_fields (g.S.Shows.showing l.shows) (fields_of (map field_view (drop l.index l.fields))) (map val_view (drop l.index l.vals)) (members_view l.members.entries)
    ≡ with_fields (g.S.Shows.showing l.shows) (fields_of (map field_view l.fields)) (map val_view l.vals) (members_view l.initial.members.entries)
