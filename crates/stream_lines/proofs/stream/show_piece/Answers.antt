use Rattle.std.proofs.Common.{ap, sym, ◌∙◌}
use Rattle.stream_lines.proofs.Pieces.{piece_lacks, piece_fails, piece_goes_on, piece_goes_bad}
use Rattle.stream_lines.proofs.stream.show_piece.Goals as goal

pub returns-in-Err-clause-shows : goal.returns-in-Err-clause-shows
returns-in-Err-clause-shows g c = λ shown bytes stands short. piece_lacks g.S.Frames.Framing.size g.S.Shows.shows shown bytes c.args.piece.now stands _ _ _ _

pub returns-in-Err-write_all_to-clause-shows : goal.returns-in-Err-write_all_to-clause-shows
returns-in-Err-write_all_to-clause-shows g c = λ shown bytes stands short.
    piece_fails g.S.Frames.Framing.size g.S.Shows.shows shown bytes c.args.piece.now stands c.push.new.self.rest (ap (λ r. r.rest) c.push.ensures.pushed) short c.new-lines.ensures c.as_slice.ensures c.in-Ok.ensures.shows _ c.write_all_to.ensures.prefix

pub returns-then-good-clause-shows : goal.returns-then-good-clause-shows
returns-then-good-clause-shows g c = λ shown bytes stands short.
    piece_goes_on g.S.Frames.Framing.size g.S.Shows.shows shown bytes c.args.piece.now stands c.push.new.self.rest (ap (λ r. r.rest) c.push.ensures.pushed) short c.new-lines.ensures c.as_slice.ensures c.in-Ok.ensures.shows _ _ c.in-Ok.ensures.rest
    c.in_default.ensures.all

pub returns-clause-shows : goal.returns-clause-shows
returns-clause-shows g c = λ shown bytes stands short.
    piece_goes_bad g.S.Frames.Framing.size g.S.Shows.shows shown bytes c.args.piece.now stands c.push.new.self.rest (ap (λ r. r.rest) c.push.ensures.pushed) short c.new-lines.ensures c.as_slice.ensures c.in-Ok.ensures.shows _
    (sym c.if-good.false ∙ c.in-Ok.ensures.good) c.in_default.ensures.all
