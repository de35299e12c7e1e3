use Rattle.std.proofs.Common.{◌+◌, ◌*◌, map, option_map}
use Rattle.serde_json.specs.Data.{depth, items_depth}
use Rattle.serde_json.specs.View.{view, items_view}
use Rattle.qmi_shapes.specs.View.{field_view}
use Rattle.message_tables.specs.Forms.{field_of}
use Rattle.message_tables.specs.View.{names_in}
use Rattle.message_tables.proofs.Continued.{HasRead}
use Rattle.message_tables.proofs.definitions.Definitions.+shapes.Given as goal

abbrev pub decreases-shape : goal.decreases-shape
decreases-shape l = 2 * depth (view l.object.now) + 1

abbrev pub decreases-array : goal.decreases-array
decreases-array l = 2 * depth (view l.object.now)

abbrev pub decreases-sequence : goal.decreases-sequence
decreases-sequence l = 2 * depth (view l.object.now)

abbrev pub decreases-fields : goal.decreases-fields
decreases-fields l = 2 * items_depth (items_view l.objects.now) + 3

abbrev pub decreases-field : goal.decreases-field
decreases-field l = 2 * depth (view l.object.now) + 2

abbrev pub invariant-fields-loop-object : goal.invariant-fields-loop-object
invariant-fields-loop-object l =
    HasRead (field_of (names_in l.self)) l.objects l.object-index (option_map (λ v. map field_view v.items) l.fields)
