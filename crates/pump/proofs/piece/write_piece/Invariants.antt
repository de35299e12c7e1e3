use Rattle.std.proofs.Common.{◌≤◌, length}
use Rattle.pump.proofs.Following.{HasCut}
use Rattle.pump.proofs.piece.write_piece.Given as goal

abbrev pub decreases-loop-count : goal.decreases-loop-count
decreases-loop-count g l = length l.stream.cutter.rest

-- all before the place is written
abbrev pub invariant-loop-count : goal.invariant-loop-count
invariant-loop-count g l = record {
  cut : HasCut l.fn.stream l.piece l.at l.stream (g.F.Files.calls l.fn.files) (g.F.Files.calls l.files);
  later : g.F.Files.write_faults l.fn.files ≤ g.F.Files.write_faults l.files;
}
