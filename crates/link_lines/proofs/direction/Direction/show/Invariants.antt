use Rattle.std.proofs.Common.{◌+◌, ◌^◌, ◌<◌, ℕ, List, length}
use Rattle.stream_lines.specs.Lines.{Showing}
use Rattle.link_lines.specs.Directions.{IsReady, StandsFor}
use Rattle.link_lines.proofs.Pieces.{HasTold}
use Rattle.link_lines.proofs.direction.Direction.show.Given as goal

abbrev pub invariant-loop-rest : goal.invariant-loop-rest
invariant-loop-rest g l = record {
  ready : IsReady g.S.Frames.Framing.size l.self.good l.self.stream.cutter;
  told : (shown : Showing) (before : List ℕ) → StandsFor g.S.Frames.Framing.size g.S.Shows.shows shown before l.initial.self.good l.initial.self.stream.cutter l.initial.self.stream.state l.initial.self.stream.place → length before + length l.bytes < 2 ^ 64
      → HasTold g.S.Frames.Framing.size g.S.Shows.shows shown before l.bytes l.rest l.initial.lines l.lines l.self.good l.self.stream.cutter l.self.stream.state l.self.stream.place;
}

abbrev pub decreases-loop-rest : goal.decreases-loop-rest
decreases-loop-rest g l = length l.rest
