use Rattle.std.proofs.Common.{◌≤◌, length}
use Rattle.subscribe_lists.specs.Structures.{events_at}
use Rattle.subscribe_lists.proofs.Adding.{Reads}
use Rattle.subscribe_lists.proofs.Sweeping.{IsRead}
use Rattle.subscribe_lists.proofs.reading.add_ordered.Given as goal

abbrev pub invariant-loop-place : goal.invariant-loop-place
invariant-loop-place l = record {
  reads : Reads (events_at l.buffer l.order) l.place l.into;
  few : length l.into ≤ 30;
  read : IsRead l.buffer (events_at l.buffer l.order) l.place l.furthest;
}
