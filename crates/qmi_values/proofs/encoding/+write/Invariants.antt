use Rattle.std.proofs.Common.{◌+◌, ◌*◌, map, take}
use Rattle.qmi_values.proofs.Depth.{depth, fields_depth}
use Rattle.qmi_shapes.specs.View.{fields_of, shape_view, field_view, fields_view}
use Rattle.qmi_values.specs.View.{val_view}
use Rattle.qmi_values.specs.Spelling.{EachSpells, Spells, FieldsSpell}
use Rattle.qmi_values.specs.Writing.{Adds}
use Rattle.qmi_values.proofs.encoding.+write.Given as goal

abbrev pub invariant-write_fields-loop-index : goal.invariant-write_fields-loop-index
invariant-write_fields-loop-index l = Adds (FieldsSpell (fields_of (map field_view (take l.index l.fields))) (map val_view (take l.index l.vals))) l.initial.out l.out

abbrev pub invariant-write_list-loop-val : goal.invariant-write_list-loop-val
invariant-write_list-loop-val l = Adds (EachSpells (Spells (shape_view l.element)) (map val_view (take l.val-index l.vals))) l.initial.out l.out

abbrev pub decreases-write : goal.decreases-write
decreases-write l = 2 * depth (shape_view l.shape.now)

abbrev pub decreases-write_list : goal.decreases-write_list
decreases-write_list l = 2 * depth (shape_view l.element.now) + 1

abbrev pub decreases-write_fields : goal.decreases-write_fields
decreases-write_fields l = 2 * fields_depth (fields_view l.fields.now) + 1
