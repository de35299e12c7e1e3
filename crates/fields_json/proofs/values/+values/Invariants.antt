use Rattle.std.proofs.Common.{◌≡◌, ◌++◌, map, take, drop}
use Rattle.serde_json.specs.View.{members_view, view}
use Rattle.mbim_fields.specs.View.{layout_of, item_view, field_view, value_view}
use Rattle.fields_json.specs.Json.{item_json, with_fields}
use Rattle.fields_json.proofs.values.+values.Given as goal

abbrev pub invariant-push_each-loop-value : goal.invariant-push_each-loop-value
invariant-push_each-loop-value l = map view l.items.items ≡ map view l.initial.items.items ++ map (item_json (item_view l.item)) (map value_view (take l.value-index l.values))

abbrev pub invariant-put_fields-loop-index : goal.invariant-put_fields-loop-index
invariant-put_fields-loop-index l =
    with_fields (layout_of (map field_view (drop l.index l.fields))) l.index (map value_view (drop l.index l.values)) (members_view l.members.entries)
    ≡ with_fields (layout_of (map field_view l.fields)) 0 (map value_view l.values) (members_view l.initial.members.entries)
