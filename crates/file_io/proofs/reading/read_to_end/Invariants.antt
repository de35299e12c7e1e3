use Rattle.std.proofs.Common.{◌-◌, ◌≤◌, length}
use Rattle.file_io.specs.Reading.{longest_file}
use Rattle.file_io.proofs.Pieces.{HasRead}
use Rattle.file_io.proofs.reading.read_to_end.Given as goal

-- each turn brings a byte
abbrev pub decreases-loop-bytes : goal.decreases-loop-bytes
decreases-loop-bytes g l = longest_file - length l.bytes

abbrev pub invariant-loop-bytes : goal.invariant-loop-bytes
invariant-loop-bytes g l = record {
  read : HasRead (g.F.Files.calls l.initial.files) (g.F.Files.calls l.files) l.bytes;
  short : length l.bytes ≤ longest_file;
  later_read : g.F.Files.read_faults l.initial.files ≤ g.F.Files.read_faults l.files;
  later_write : g.F.Files.write_faults l.initial.files ≤ g.F.Files.write_faults l.files;
}
