use Rattle.std.proofs.Common.{map, take, drop}
use Rattle.mbim_fields.specs.Canon.{lay_item}
use Rattle.mbim_fields.specs.View.{layout_of, item_view, field_view, value_view}
use Rattle.mbim_fields.proofs.Writings.{EachLaid, FieldsLaid}
use Rattle.mbim_fields.proofs.encoding.+lay.Given as goal

abbrev pub invariant-lay_each-loop-value : goal.invariant-lay_each-loop-value
invariant-lay_each-loop-value l = EachLaid (lay_item (item_view l.item) l.begin) (map value_view l.values) (map value_view (drop l.value-index l.values)) l.initial.laid l.laid

abbrev pub invariant-structure_bytes-loop-index : goal.invariant-structure_bytes-loop-index
invariant-structure_bytes-loop-index l =
    FieldsLaid (layout_of (map field_view l.fields)) (layout_of (map field_view (drop l.index l.fields))) l.begin (map value_view l.values) (map value_view (take l.index l.values)) (map value_view (drop l.index l.values)) l.laid
