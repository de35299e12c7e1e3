use Rattle.std.proofs.Common.{◌≡◌, ◌≤◌, ◌*◌, [], length}
use Rattle.framing.specs.Framing.{IsPartial}
use Rattle.stream_lines.specs.Lines.{Showing}
use Rattle.stream_lines.specs.Pieces.{Stands}
use Rattle.stream_lines.proofs.ReadPieces.{HasShown}
use Rattle.stream_lines.proofs.reads.show_reads.Given as goal

abbrev pub invariant-loop : goal.invariant-loop
invariant-loop g l = record {
  shown : (shown : Showing) → Stands g.S.Frames.Framing.size g.S.Shows.shows shown [] l.initial.stream.cutter l.initial.stream.state l.initial.stream.place
      → HasShown g.S.Frames.Framing.size g.S.Shows.shows shown l.counter l.came (g.F.Files.calls l.initial.files) (g.O.Sink.taken l.initial.out) l.stream.cutter l.stream.state l.stream.place (g.F.Files.calls l.files) (g.O.Sink.taken l.out);
  partial : IsPartial g.S.Frames.Framing.size l.stream.cutter.rest;
  room : length l.buffer ≡ 16384;
  within : l.counter ≤ l.turns;
  came : l.came ≤ 16384 * l.counter;
  later : g.O.Sink.faults l.initial.out ≤ g.O.Sink.faults l.out;
  later_read : g.F.Files.read_faults l.initial.files ≤ g.F.Files.read_faults l.files;
}
