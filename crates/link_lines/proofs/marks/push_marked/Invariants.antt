use Rattle.std.proofs.Common.{◌≡◌, ◌++◌, drop}
use Rattle.link_lines.specs.Lines.{marked, marked_from}
use Rattle.link_lines.proofs.marks.push_marked.Given as goal

-- what is left to mark, marked, is what there was to mark, marked
abbrev pub invariant-loop-byte : goal.invariant-loop-byte
invariant-loop-byte l = l.text ++ marked_from l.mark l.begins (drop l.byte-index l.lines) ≡ l.fn.text ++ marked l.mark l.lines
