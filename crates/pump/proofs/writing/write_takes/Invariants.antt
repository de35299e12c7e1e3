use Rattle.std.proofs.Common.{◌≡◌, ◌≤◌, length}
use Rattle.pump.specs.Stream.{IsReady}
use Rattle.pump.proofs.Passing.{HasPassed}
use Rattle.pump.proofs.writing.write_takes.Given as goal

abbrev pub invariant-loop : goal.invariant-loop
invariant-loop g l = record {
  passed : HasPassed l.counter (g.L.Link.calls l.initial.link) (g.F.Files.calls l.initial.files) (g.L.Link.calls l.link) (g.F.Files.calls l.files) l.stream;
  ready : IsReady l.stream;
  room : length l.buffer ≡ 16384;
  within : l.counter ≤ l.turns;
  later : g.L.Link.faults l.initial.link ≤ g.L.Link.faults l.link;
  later_write : g.F.Files.write_faults l.initial.files ≤ g.F.Files.write_faults l.files;
}
