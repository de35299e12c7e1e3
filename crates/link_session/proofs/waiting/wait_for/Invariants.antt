use Rattle.std.proofs.Common.{◌≡◌, ◌+◌, ◌-◌, ◌<◌, ◌≤◌}
use Rattle.link_session.specs.Waiting.{Heard, patience_of}
use Rattle.link_session.specs.Hearing.{Stands}
use Rattle.link_session.proofs.Passing.{Passed}
use Rattle.link_session.proofs.waiting.wait_for.Given as goal

abbrev pub decreases-loop-found : goal.decreases-loop-found
decreases-loop-found g l = patience_of l.timeout - l.quiets + (65536 - l.messages)

abbrev pub invariant-loop-found : goal.invariant-loop-found
invariant-loop-found g l = record {
  passed : (heard : Heard) → Stands g.F.Framing.size l.initial.incoming heard
      → Passed g.F.Framing.size (g.A.Awaits.judge l.initial.awaiting) (g.A.Awaits.has_heard l.awaiting) heard l.incoming l.quiets l.messages (g.L.Link.calls l.initial.link) (g.L.Link.calls l.link);
  judge : g.A.Awaits.judge l.awaiting ≡ g.A.Awaits.judge l.initial.awaiting;
  number : g.A.Awaits.number l.awaiting ≡ g.A.Awaits.number l.initial.awaiting;
  few_quiets : l.quiets ≤ patience_of l.timeout;
  few_messages : l.messages < 65536;
  later : g.L.Link.faults l.initial.link ≤ g.L.Link.faults l.link;
  later_open : g.L.Link.open_faults l.initial.link ≤ g.L.Link.open_faults l.link;
}
