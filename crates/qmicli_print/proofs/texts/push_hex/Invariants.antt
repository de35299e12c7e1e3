use Rattle.std.proofs.Common.{◌≡◌, ◌++◌, take, map}
use Rattle.std.specs.List.{flat_map}
use Rattle.qmi_values.specs.View.{val_view}
use Rattle.qmicli_print.specs.Texts.{hex_of}
use Rattle.qmicli_print.proofs.texts.push_hex.Given as goal

abbrev pub invariant-loop-val : goal.invariant-loop-val
invariant-loop-val l = l.text ≡ l.initial.text ++ flat_map hex_of (map val_view (take l.val-index l.vals))
