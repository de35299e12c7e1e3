use Rattle.std.proofs.Common.{◌≡◌, ◌++◌, take, codes, decimal}
use Rattle.std.specs.List.{flat_map}
use Rattle.print_text.proofs.texts.push_dotted.Given as goal

-- the bytes so far
abbrev pub invariant-loop-byte : goal.invariant-loop-byte
invariant-loop-byte l = l.text ≡ l.initial.text ++ flat_map (λ next. codes "." ++ decimal next) (take l.byte-index l.bytes)
