use Rattle.std.proofs.Common.{◌≡◌, map, take}
use Rattle.qmi_shapes.specs.View.{field_view}
use Rattle.qmi_services.specs.View.{field_format_view}
use Rattle.qmi_services.proofs.table.+shape.Given as goal

abbrev pub invariant-shape_fields-loop-field : goal.invariant-shape_fields-loop-field
invariant-shape_fields-loop-field l = map field_view l.shapes.items ≡ map field_format_view (take l.field-index l.fields)
