use Rattle.std.proofs.Common.{◌≡◌, string_bytes}
use Rattle.print_text.specs.Texts.{escaped_text}
use Rattle.print_text.proofs.texts.escaped_text.Given as goal

abbrev pub invariant-loop-char : goal.invariant-loop-char
invariant-loop-char l = string_bytes l.shown ≡ escaped_text l.yielded
