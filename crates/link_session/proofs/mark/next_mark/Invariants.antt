use Rattle.std.proofs.Common.{◌-◌, ◌≤◌, length}
use Rattle.link_session.specs.Waiting.{Heard}
use Rattle.link_session.specs.Hearing.{Stands}
use Rattle.link_session.proofs.Looking.{Looked}
use Rattle.link_session.proofs.mark.next_mark.Given as goal

-- each turn brings a byte, and less than a message waits for more
abbrev pub decreases-loop-found : goal.decreases-loop-found
decreases-loop-found g l = g.F.Framing.LONGEST - length l.incoming.rest

abbrev pub invariant-loop-found : goal.invariant-loop-found
invariant-loop-found g l = record {
  looked : (heard : Heard) → Stands g.F.Framing.size l.initial.incoming heard → Looked g.F.Framing.size heard l.incoming (g.L.Link.calls l.initial.link) (g.L.Link.calls l.link);
  later : g.L.Link.faults l.initial.link ≤ g.L.Link.faults l.link;
  later_open : g.L.Link.open_faults l.initial.link ≤ g.L.Link.open_faults l.link;
}
