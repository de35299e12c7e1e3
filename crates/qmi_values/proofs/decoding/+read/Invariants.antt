use Rattle.std.proofs.Common.{◌≡◌, ◌+◌, ◌*◌, length, map, take}
use Rattle.qmi_values.proofs.Depth.{depth, fields_depth}
use Rattle.qmi_shapes.specs.View.{fields_of, shape_view, field_view, fields_view}
use Rattle.qmi_values.specs.View.{val_view}
use Rattle.qmi_values.specs.Spelling.{EachSpells, Spells, FieldsSpell}
use Rattle.qmi_values.specs.Reading.{Takes}
use Rattle.qmi_values.proofs.decoding.+read.Given as goal

abbrev pub invariant-read_fields-loop-field : goal.invariant-read_fields-loop-field
invariant-read_fields-loop-field l = Takes (FieldsSpell (fields_of (map field_view (take l.field-index l.field-items))) (map val_view l.vals.items)) l.initial.reader l.reader

abbrev pub invariant-read_list-loop : goal.invariant-read_list-loop
invariant-read_list-loop l = Takes (EachSpells (Spells (shape_view l.element)) (map val_view l.vals.items)) l.initial.reader l.reader × (length l.vals.items ≡ l.counter)

abbrev pub decreases-read : goal.decreases-read
decreases-read l = 2 * depth (shape_view l.shape.now)

abbrev pub decreases-read_list : goal.decreases-read_list
decreases-read_list l = 2 * depth (shape_view l.element.now) + 1

abbrev pub decreases-read_fields : goal.decreases-read_fields
decreases-read_fields l = 2 * fields_depth (fields_view l.fields.now) + 1
