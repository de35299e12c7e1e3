use Rattle.std.proofs.Common.{◌≡◌, take}
use Rattle.std.specs.List.{flat_map}
use Rattle.table_requests.specs.Pointer.{step_text}
use Rattle.table_requests.proofs.pointer.pointer_text.Given as goal

abbrev pub invariant-loop-step : goal.invariant-loop-step
invariant-loop-step l = l.text ≡ flat_map step_text (take l.step-index l.path)
