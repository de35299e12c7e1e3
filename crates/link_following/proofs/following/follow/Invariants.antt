use Rattle.std.proofs.Common.{◌≤◌}
use Rattle.link_session.specs.Waiting.{Heard}
use Rattle.link_session.specs.Hearing.{Stands}
use Rattle.link_following.proofs.Coming.{Followed}
use Rattle.link_following.proofs.following.follow.Given as goal

abbrev pub invariant-loop : goal.invariant-loop
invariant-loop g l = record {
  followed : (heard : Heard) → Stands g.F.Framing.size l.initial.incoming heard
      → Followed g.F.Framing.size (g.S.Shows.shown l.shows) heard l.incoming l.counter (g.L.Link.calls l.initial.link) (g.L.Link.calls l.link) (g.O.Sink.taken l.initial.out) (g.O.Sink.taken l.out);
  within : l.counter ≤ l.turns;
  later : g.L.Link.faults l.initial.link ≤ g.L.Link.faults l.link;
  later_open : g.L.Link.open_faults l.initial.link ≤ g.L.Link.open_faults l.link;
  later_write : g.O.Sink.faults l.initial.out ≤ g.O.Sink.faults l.out;
}
