use Rattle.std.proofs.Common.{◌+◌, ◌*◌, map, drop}
use Rattle.serde_json.specs.View.{view, items_view}
use Rattle.qmi_shapes.specs.View.{fields_of, field_view, fields_view, shape_view}
use Rattle.qmi_values.specs.View.{val_view}
use Rattle.message_tables.proofs.Weights.{weight, fields_weight}
use Rattle.json_values.specs.Given.{elements_by, given, fields_given}
use Rattle.json_values.proofs.Continued.{HasGiven}
use Rattle.json_values.proofs.values.+values.Given as goal

abbrev pub decreases-value_of : goal.decreases-value_of
decreases-value_of l = 4 * weight (shape_view l.shape.now)

abbrev pub decreases-list_in : goal.decreases-list_in
decreases-list_in l = 4 * weight (shape_view l.element.now) + 3

abbrev pub decreases-items_in : goal.decreases-items_in
decreases-items_in l = 4 * weight (shape_view l.element.now) + 2

abbrev pub decreases-elements_in : goal.decreases-elements_in
decreases-elements_in l = 4 * weight (shape_view l.element.now) + 1

abbrev pub decreases-member_value : goal.decreases-member_value
decreases-member_value l = 4 * weight (shape_view l.shape.now) + 1

abbrev pub decreases-named_value : goal.decreases-named_value
decreases-named_value l = 4 * weight (shape_view l.shape.now) + 2

abbrev pub decreases-fields_in : goal.decreases-fields_in
decreases-fields_in l = 4 * fields_weight (fields_of (map field_view l.fields.now))

abbrev pub decreases-sequence_in : goal.decreases-sequence_in
decreases-sequence_in l = 4 * fields_weight (fields_view l.fields.now) + 1

abbrev pub invariant-elements_in-loop-index : goal.invariant-elements_in-loop-index
invariant-elements_in-loop-index l =
    HasGiven (elements_by (given (shape_view l.element)) 0 (items_view l.items)) (map val_view l.vals.items) (elements_by (given (shape_view l.element)) l.index (items_view (drop l.index l.items)))

abbrev pub invariant-fields_in-loop-field : goal.invariant-fields_in-loop-field
invariant-fields_in-loop-field l =
    HasGiven (fields_given (fields_of (map field_view l.fields)) (view l.json)) (map val_view l.vals.items) (fields_given (fields_of (map field_view (drop l.field-index l.fields))) (view l.json))
