use Rattle.std.proofs.Common.{◌≡◌, length}
use Rattle.framing.specs.Cutting.{cut}
use Rattle.connections.specs.Hearing.{hears_all}
use Rattle.connections.proofs.connection.hear_all.Given as goal

-- what is left to hear, heard, is what there was to hear, heard
abbrev pub invariant-loop-span : goal.invariant-loop-span
invariant-loop-span g l = record {
  hears :
      hears_all g.S.Hears.hears l.name (cut g.F.Framing.size l.stream.rest).messages l.client l.outbox l.beside
      ≡ hears_all g.S.Hears.hears l.name (cut g.F.Framing.size l.initial.stream.rest).messages l.initial.client l.initial.outbox l.initial.beside;
  rest : (cut g.F.Framing.size l.stream.rest).rest ≡ (cut g.F.Framing.size l.initial.stream.rest).rest;
  capacity : l.outbox.capacity ≡ l.initial.outbox.capacity;
}

abbrev pub decreases-loop-span : goal.decreases-loop-span
decreases-loop-span g l = length l.stream.rest
