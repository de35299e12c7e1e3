use Rattle.std.proofs.Common.{◌≤◌, length, drop}
use Rattle.mbim_services.specs.EventLists.{pairs_in}
use Rattle.subscribe_lists.specs.ClientLists.{services}
use Rattle.subscribe_lists.proofs.Adding.{Adds}
use Rattle.subscribe_lists.proofs.reading.add_services.Given as goal

abbrev pub invariant-loop-place : goal.invariant-loop-place
invariant-loop-place l = record {
  adds : Adds (services (pairs_in l.events)) l.into (services (pairs_in (drop l.place l.events)));
  few : length l.into ≤ 30;
}
