use Rattle.std.proofs.Common.{List, ℕ, ◌+◌, ◌++◌, drop, ap, sym, ◌∙◌, arith, append-nil, drop_of_length-le}
use Rattle.std.proofs.lemmas.List.{drop_more}
use Rattle.link_lines.specs.Lines.{marked_from}
use Rattle.link_lines.proofs.Marking.{marked_none}
use Rattle.link_lines.proofs.marks.push_marked.Goals as goal

pub loop-byte-preserved : goal.loop-byte-preserved
loop-byte-preserved c =
    let lines : List ℕ = c.args.lines.now in
    let index : ℕ = c.loop-byte.byte-index in
    c.in_ok-push_byte.ensures (drop (index + 1) lines)
    ∙ ap (λ (l : List ℕ). c.loop-byte.text ++ marked_from c.args.mark.now c.loop-byte.begins l) (sym (drop_more lines index 0 (omega (arith, c.loop-byte-test.true))))
    ∙ c.loop-byte.invariant

pub returns : goal.returns
returns c =
    let text : List ℕ = c.loop-byte.text in
    let mark : List ℕ = c.args.mark.now in
    sym (append-nil text)
    ∙ ap (λ (l : List ℕ). text ++ l) (sym (marked_none mark c.loop-byte.begins))
    ∙ ap (λ (l : List ℕ). text ++ marked_from mark c.loop-byte.begins l) (sym (drop_of_length-le c.args.lines.now {i = c.loop-byte.byte-index} c.loop-byte-test.false))
    ∙ c.loop-byte.invariant
