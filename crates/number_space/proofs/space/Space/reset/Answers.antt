use Rattle.std.proofs.Common.{ap, arith}
use Rattle.number_space.specs.Chain.{values}
use Rattle.number_space.proofs.Tables.{sound_none, none_due_none}
use Rattle.number_space.proofs.Index.{index_none}
use Rattle.number_space.proofs.Waiting.{counted_none}
use Rattle.number_space.proofs.space.Space.reset.Goals as goal

pub invariant_of-self : goal.invariant_of-self
invariant_of-self g c = record {
  sound = sound_none _ (values c.clear.new.self.entries) c.self.invariant.sound (ap values c.clear.ensures.entries);
  room = omega (arith, c.self.invariant.room, c.clear.ensures.capacity);
  index_room = omega (arith, c.self.invariant.index_room, c.clear-2.ensures.capacity);
  indexed = index_none c.clear-2.new.self.entries c.clear.new.self.entries c.clear-2.ensures.entries c.clear.ensures.entries;
  none_due = none_due_none _ (values c.clear.new.self.entries) (ap values c.clear.ensures.entries);
  counted = counted_none c.clear-3.new.self (values c.clear.new.self.entries) (ap values c.clear.ensures.entries) c.clear-3.ensures;
}
