use Rattle.std.proofs.Common.{arith}
use Rattle.holders.specs.Grants.{IsAhead}
use Rattle.kit_bytes.proofs.Sorted.{in_order_none}
use Rattle.holders.proofs.Order.{bytes_none}
use Rattle.holders.proofs.by_id.ById.clear.Goals as goal

pub invariant_of-self : goal.invariant_of-self
invariant_of-self c = record {
  ordered = in_order_none IsAhead c.clear.new.self.items c.clear.ensures.items;
  bytes = bytes_none c.clear.new.self.items c.clear.ensures.items;
  room = omega (arith, c.self.invariant.room, c.clear.ensures.capacity);
}
