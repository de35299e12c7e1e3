use Rattle.std.proofs.Common.{◌≡◌, ◌≤◌, length}
use Rattle.pump.proofs.Sending.{HasSent}
use Rattle.pump.proofs.reading.send_reads.Given as goal

abbrev pub invariant-loop : goal.invariant-loop
invariant-loop g l = record {
  sent : HasSent l.counter (g.L.Link.calls l.initial.link) (g.F.Files.calls l.initial.files) (g.L.Link.calls l.link) (g.F.Files.calls l.files);
  room : length l.buffer ≡ 16384;
  within : l.counter ≤ l.turns;
  later : g.L.Link.faults l.initial.link ≤ g.L.Link.faults l.link;
  later_read : g.F.Files.read_faults l.initial.files ≤ g.F.Files.read_faults l.files;
}
