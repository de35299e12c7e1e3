use Rattle.std.proofs.Common.{◌≡◌, ◌+◌, ◌*◌, nat_le, drop, map}
use Rattle.qmi_shapes.specs.View.{fields_of, field_view}
use Rattle.message_tables.specs.Tlvs.{fields_nesting}
use Rattle.message_tables.proofs.nesting.+nesting.Given as goal

abbrev pub decreases-nests_within : goal.decreases-nests_within
decreases-nests_within l = 2 * l.levels

abbrev pub decreases-nest_within : goal.decreases-nest_within
decreases-nest_within l = 2 * l.levels + 1

abbrev pub invariant-nest_within-loop-field : goal.invariant-nest_within-loop-field
invariant-nest_within-loop-field l =
    nat_le (fields_nesting (fields_of (map field_view l.fields))) l.levels ≡ nat_le (fields_nesting (fields_of (map field_view (drop l.field-index l.fields)))) l.levels
