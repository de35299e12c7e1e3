use Rattle.std.proofs.Common.{◌≡◌, ◌≤◌, [], ◌∷◌, length, take, refl, ap, arith, rules}
use Rattle.std.proofs.lemmas.List.{length-take-le}
use Rattle.kit_io.proofs.Growth.{Grows-none}
use Rattle.file_io.specs.Calls.{Gave, ReadFailed}
use Rattle.stream_lines.specs.Capture.{found_end, read_failed, turns_spent}
use Rattle.stream_lines.proofs.ReadPieces.{HasShown-none, HasShown-more, HasShown-ends, HasShown-last, end_is}
use Rattle.stream_lines.proofs.reads.show_reads.Goals as goal

pub loop-init : goal.loop-init
loop-init g c = record {
  shown = λ shown stands. HasShown-none g.S.Frames.Framing.size g.S.Shows.shows shown _ _ _ _ _ stands;
  partial = c.requires.partial;
  room = search rules;
  within = omega arith;
  came = omega arith;
  later = omega arith;
  later_read = omega arith;
}

pub returns-in-Err-clause-shows : goal.returns-in-Err-clause-shows
returns-in-Err-clause-shows g c = λ shown stands.
    let so_far = c.loop.invariant.shown shown stands in
    HasShown-ends g.S.Frames.Framing.size g.S.Shows.shows shown so_far c.args.turns _ (ReadFailed ∷ []) c.loop.invariant.partial (read_failed c.loop-test.true refl refl refl) c.in-Err.ensures.calls

pub returns-then-count-eq0-clause-shows : goal.returns-then-count-eq0-clause-shows
returns-then-count-eq0-clause-shows g c = λ shown stands.
    let so_far = c.loop.invariant.shown shown stands in
    HasShown-ends g.S.Frames.Framing.size g.S.Shows.shows shown so_far c.args.turns _ (Gave (take c.in-Ok.count c.read.new.buffer) ∷ []) c.loop.invariant.partial
    (found_end c.loop-test.true (ap (λ n. Gave (take n c.read.new.buffer) ∷ []) c.if-count-eq0.true) (end_is g.S.Frames.Framing.size g.S.Shows.shows shown so_far _ c.end_of_stream.ensures) refl) c.in-Ok.ensures.calls

pub loop-preserved : goal.loop-preserved
loop-preserved g c =
    let within : c.in-Ok.count ≤ length c.read.new.buffer = search rules in
    let piece_is : length (take c.in-Ok.count c.read.new.buffer) ≡ c.in-Ok.count = length-take-le c.in-Ok.count c.read.new.buffer within in
    record {
      shown = λ shown stands.
          let so_far = c.loop.invariant.shown shown stands in
          rw (← piece_is)
          (HasShown-more g.S.Frames.Framing.size g.S.Shows.shows shown so_far (take c.in-Ok.count c.read.new.buffer) tt (omega (arith, piece_is, c.if-count-eq0.false)) c.in-Ok.ensures.calls
          (c.in_default.ensures.shows shown _ so_far.stands (omega (arith, piece_is, within, c.loop.invariant.room, so_far.came_is, c.loop.invariant.came, c.loop-test.true, c.requires.turns))));
      partial = c.in_default.ensures.partial;
      room = search rules;
      within = omega (arith, c.loop-test.true);
      came = omega (arith, within, c.loop.invariant.came, c.loop.invariant.room);
      later = search rules;
      later_read = search rules;
    }

pub returns-in-Err-show_piece-clause-shows : goal.returns-in-Err-show_piece-clause-shows
returns-in-Err-show_piece-clause-shows g c = λ shown stands.
    let within : c.in-Ok.count ≤ length c.read.new.buffer = search rules in
    let piece_is : length (take c.in-Ok.count c.read.new.buffer) ≡ c.in-Ok.count = length-take-le c.in-Ok.count c.read.new.buffer within in
    let so_far = c.loop.invariant.shown shown stands in
    HasShown-last g.S.Frames.Framing.size g.S.Shows.shows shown so_far c.args.turns _ (take c.in-Ok.count c.read.new.buffer) c.loop.invariant.partial c.loop-test.true (omega (arith, piece_is, c.if-count-eq0.false)) c.in-Ok.ensures.calls
    (c.in-Err-show_piece.ensures.shows shown _ so_far.stands (omega (arith, piece_is, within, c.loop.invariant.room, so_far.came_is, c.loop.invariant.came, c.loop-test.true, c.requires.turns)))

pub returns-clause-shows : goal.returns-clause-shows
returns-clause-shows g c = λ shown stands.
    HasShown-ends g.S.Frames.Framing.size g.S.Shows.shows shown (c.loop.invariant.shown shown stands) c.args.turns _ [] c.loop.invariant.partial
    (turns_spent (omega (arith, c.loop.invariant.within, c.loop-test.false)) refl refl refl) (Grows-none _)
