use Rattle.std.proofs.Common.{◌≡◌, take, map}
use Rattle.std.specs.List.{flat_map}
use Rattle.qmi_values.specs.View.{val_view}
use Rattle.json_values.specs.Json.{low_byte}
use Rattle.json_values.proofs.json_texts.list_digits.Given as goal

abbrev pub invariant-loop-val : goal.invariant-loop-val
invariant-loop-val l = l.bytes.items ≡ flat_map low_byte (map val_view (take l.val-index l.vals))
