use Rattle.std.proofs.Common.{◌≡◌, ◌++◌, map, take}
use Rattle.serde_json.specs.View.{view}
use Rattle.mbim_fields.specs.View.{fixed_view, value_view}
use Rattle.fields_json.specs.Json.{fixed_json}
use Rattle.fields_json.proofs.values.push_run.Given as goal

abbrev pub invariant-loop-value : goal.invariant-loop-value
invariant-loop-value l = map view l.items.items ≡ map view l.initial.items.items ++ map (fixed_json (fixed_view l.fixed)) (map value_view (take l.value-index l.values))
