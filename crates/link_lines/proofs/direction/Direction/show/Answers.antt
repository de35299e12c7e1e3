use Rattle.std.proofs.Common.{◌≡◌, length, arith}
use Rattle.std.proofs.lemmas.Bool.Decides.{nat_tests}
use Rattle.link_lines.proofs.Pieces.{told_none, told_short, told_more, told_all, none_left}
use Rattle.link_lines.proofs.direction.Direction.show.Goals as goal

pub loop-rest-init : goal.loop-rest-init
loop-rest-init g c = record {
  ready = c.requires.ready;
  told = λ shown before stands short. told_none g.S.Frames.Framing.size g.S.Shows.shows shown before c.args.bytes.now c.args.lines.now stands;
}

pub show_piece-requires-clause-short : goal.show_piece-requires-clause-short
show_piece-requires-clause-short g c = omega (arith, c.split_at.ensures.front_len, c.min.ensures)

pub loop-rest-preserved : goal.loop-rest-preserved
loop-rest-preserved g c = record {
  ready = c.in_ok-show_piece.ensures.ready;
  told = λ shown before stands short.
      let so_far = c.loop-rest.invariant.told shown before stands short in
      let piece = c.split_at.result.0.now in
      let others = c.split_at.result.1.now in
      told_more g.S.Frames.Framing.size g.S.Shows.shows shown before c.args.bytes.now c.args.lines.now so_far piece others _ c.split_at.ensures.by_index.0
      (c.in_ok-show_piece.ensures.shows shown _ so_far.told.1 (told_short g.S.Frames.Framing.size g.S.Shows.shows shown before c.args.bytes.now c.args.lines.now so_far piece others c.split_at.ensures.by_index.0 short));
}

pub returns : goal.returns
returns g c = record {
  ready = c.loop-rest.invariant.ready;
  shows = λ shown before stands short.
      let none : length c.loop-rest.rest.now ≡ 0 = grind (arith, nat_tests, c.is_empty.ensures, c.loop-rest-test.false) in
      told_all g.S.Frames.Framing.size g.S.Shows.shows shown before c.args.bytes.now c.args.lines.now (c.loop-rest.invariant.told shown before stands short) (none_left _ none);
}
