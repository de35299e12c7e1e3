use Rattle.std.proofs.Common.{◌≡◌, ◌+◌, ◌^◌, ◌<◌, ℕ, List, length}
use Rattle.framing.specs.Cutting.{cut}
use Rattle.stream_lines.specs.Lines.{Showing, place_behind}
use Rattle.stream_lines.proofs.Showing.{IsShowing}
use Rattle.stream_lines.proofs.stream.show_all.Given as goal

-- what is left to show, shown, is what there was to show, shown
abbrev pub invariant-loop-span : goal.invariant-loop-span
invariant-loop-span g l = record {
  showing : (shown : Showing) (before : List (List ℕ)) → g.S.Shows.shows shown before l.initial.stream.state → l.initial.stream.place ≡ place_behind before → place_behind before + length l.initial.stream.cutter.rest < 2 ^ 64
      → IsShowing g.S.Shows.shows shown before (cut g.S.Frames.Framing.size l.initial.stream.cutter.rest).messages l.initial.lines (cut g.S.Frames.Framing.size l.stream.cutter.rest).messages (length l.stream.cutter.rest) l.stream.state l.stream.place l.lines;
  rest : (cut g.S.Frames.Framing.size l.stream.cutter.rest).rest ≡ (cut g.S.Frames.Framing.size l.initial.stream.cutter.rest).rest;
}

abbrev pub decreases-loop-span : goal.decreases-loop-span
decreases-loop-span g l = length l.stream.cutter.rest
