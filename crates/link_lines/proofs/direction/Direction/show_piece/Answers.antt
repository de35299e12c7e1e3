use Rattle.std.proofs.Common.{ap}
use Rattle.link_lines.proofs.Pieces.{stands_good, goes, stays_as}
use Rattle.link_lines.proofs.direction.Direction.show_piece.Goals as goal

pub returns-then-not-self-clause-shows : goal.returns-then-not-self-clause-shows
returns-then-not-self-clause-shows g c = λ shown before stands short.
    stays_as g.S.Frames.Framing.size g.S.Shows.shows shown g.met.S.Frames.Framing.kept before c.args.piece.now c.args.self.now.good c.if-not-self.true c.args.lines.now _ _ _ stands

pub returns-clause-shows : goal.returns-clause-shows
returns-clause-shows g c = λ shown before stands short.
    goes g.S.Frames.Framing.size g.S.Shows.shows shown before c.args.piece.now (stands_good g.S.Frames.Framing.size g.S.Shows.shows shown before c.args.self.now.good c.if-not-self.false stands)
    c.push.new.self.rest (ap (λ r. r.rest) c.push.ensures.pushed) short c.new-more.ensures c.as_slice.ensures c.in_ok-self.ensures.shows _ _ c.in_ok-extend_from_slice.ensures.ok
    c.in_ok-self.field-0 c.show_all.new.stream.cutter c.in_ok-self.ensures.rest c.in_ok-self.ensures.good
