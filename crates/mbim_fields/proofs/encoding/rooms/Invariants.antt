use Rattle.std.proofs.Common.{map, take, drop}
use Rattle.mbim_fields.specs.View.{layout_of, field_view, value_view}
use Rattle.mbim_fields.proofs.Writings.{RoomSoFar}
use Rattle.mbim_fields.proofs.encoding.rooms.Given as goal

abbrev pub invariant-loop-index : goal.invariant-loop-index
invariant-loop-index l =
    RoomSoFar (layout_of (map field_view l.fields)) (layout_of (map field_view (drop l.index l.fields))) (map value_view l.values) (map value_view (take l.index l.values)) (map value_view (drop l.index l.values)) l.bytes
