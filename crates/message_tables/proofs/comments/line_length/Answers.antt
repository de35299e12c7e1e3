use Rattle.std.proofs.Common.{length, arith, add-one}
use Rattle.std.proofs.Math.Seq.{take-length}
use Rattle.std.proofs.lemmas.List.{drop_all}
use Rattle.message_tables.proofs.Lines.{lines_of-split, lines_of-last}
use Rattle.message_tables.proofs.comments.line_length.Goals as goal

pub returns-then-byte-eq10-clause-splits : goal.returns-then-byte-eq10-clause-splits
returns-then-byte-eq10-clause-splits c =
    rw (add-one c.loop-index.index) (lines_of-split c.args.text.now c.loop-index.index c.loop-index-test.true c.if-byte-eq10.true c.loop-index.invariant)

pub returns-clause-splits : goal.returns-clause-splits
returns-clause-splits c =
    rw (take-length c.args.text.now, drop_all (length c.args.text.now) c.args.text.now (omega arith))
    (lines_of-last c.args.text.now c.requires (λ k below. c.loop-index.invariant k (omega arith)))
