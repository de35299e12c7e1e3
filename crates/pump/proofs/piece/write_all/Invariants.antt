use Rattle.std.proofs.Common.{◌≤◌, length}
use Rattle.pump.proofs.Passing.{HasWritten}
use Rattle.pump.proofs.piece.write_all.Given as goal

abbrev pub decreases-loop-rest : goal.decreases-loop-rest
decreases-loop-rest g l = length l.rest

-- all but the rest is written
abbrev pub invariant-loop-rest : goal.invariant-loop-rest
invariant-loop-rest g l = record {
  written : HasWritten l.bytes l.rest (g.F.Files.calls l.initial.files) (g.F.Files.calls l.files);
  later : g.F.Files.write_faults l.initial.files ≤ g.F.Files.write_faults l.files;
}
