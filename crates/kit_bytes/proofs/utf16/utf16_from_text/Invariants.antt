use Rattle.std.proofs.Common.{◌≡◌}
use Rattle.kit_bytes.specs.Utf16.{utf16_bytes}
use Rattle.kit_bytes.proofs.utf16.utf16_from_text.Given as goal

abbrev pub invariant-loop-char : goal.invariant-loop-char
invariant-loop-char l = l.octets ≡ utf16_bytes l.yielded
