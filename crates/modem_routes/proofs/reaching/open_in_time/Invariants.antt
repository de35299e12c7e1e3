use Rattle.std.proofs.Common.{◌≤◌}
use Rattle.kit_io.specs.Growth.{Grows}
use Rattle.link_io.specs.Target.{address_of}
use Rattle.modem_routes.specs.Reaching.{refused}
use Rattle.modem_routes.proofs.reaching.open_in_time.Given as goal

abbrev pub invariant-loop : goal.invariant-loop
invariant-loop g l = record {
  opened : Grows (g.L.Link.calls l.initial.link) (refused l.counter (address_of l.target)) (g.L.Link.calls l.link);
  within : l.counter ≤ 19;
  later : g.L.Link.faults l.initial.link ≤ g.L.Link.faults l.link;
  later_open : g.L.Link.open_faults l.initial.link ≤ g.L.Link.open_faults l.link;
}
