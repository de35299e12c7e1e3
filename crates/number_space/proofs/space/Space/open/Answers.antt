use Rattle.std.proofs.Common.{ap}
use Rattle.number_space.specs.Chain.{values}
use Rattle.number_space.proofs.Tables.{sound_opened, none_due_none}
use Rattle.number_space.proofs.Index.{index_none}
use Rattle.number_space.proofs.Waiting.{counted_none}
use Rattle.number_space.proofs.space.Space.open.Goals as goal

pub invariant_of-result : goal.invariant_of-result
invariant_of-result g c = record {
  sound = sound_opened c.args.limit c.args.top (values c.in_ok-open.field-0.entries) c.requires.some c.requires.within (ap values c.in_ok-open.ensures.entries);
  room = c.in_ok-open.ensures.room;
  index_room = c.in_ok-open-2.ensures.room;
  indexed = index_none c.in_ok-open-2.field-0.entries c.in_ok-open.field-0.entries c.in_ok-open-2.ensures.entries c.in_ok-open.ensures.entries;
  none_due = none_due_none _ (values c.in_ok-open.field-0.entries) (ap values c.in_ok-open.ensures.entries);
  counted = counted_none c.in_ok-none.field-0 (values c.in_ok-open.field-0.entries) (ap values c.in_ok-open.ensures.entries) c.in_ok-none.ensures;
}
