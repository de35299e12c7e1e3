use Rattle.std.proofs.Common.{arith}
use Rattle.holders.specs.Grants.{IsAhead}
use Rattle.kit_bytes.proofs.Sorted.{in_order_none}
use Rattle.holders.proofs.Order.{bytes_none}
use Rattle.holders.proofs.by_id.ById.open.Goals as goal

pub invariant_of-result : goal.invariant_of-result
invariant_of-result c = record {
  ordered = in_order_none IsAhead c.in_ok-with_capacity.field-0.items c.in_ok-with_capacity.ensures.items;
  bytes = bytes_none c.in_ok-with_capacity.field-0.items c.in_ok-with_capacity.ensures.items;
  room = omega (arith, c.in_ok-with_capacity.ensures.exact);
}
