use Rattle.std.proofs.Common.{◌≡◌, List, sym, subst, ap, arith}
use Rattle.connections.specs.Table.{Connection, Dropped, IsRegular}
use Rattle.connections.specs.Places.{HaveRoom, places_in}
use Rattle.connections.proofs.Regular.{table, regular_none}
use Rattle.connections.proofs.connections.Connections.open.Goals as goal

pub invariant_of-result : goal.invariant_of-result
invariant_of-result g c =
    let nobody : places_in c.in_ok-with_capacity-2.field-0.items ≡ 0 = ap places_in c.in_ok-with_capacity-2.ensures.items in
    record {
      regular =
          subst (λ (l : List (Connection g.row.T.Denot)). IsRegular (table l c.in_ok-with_capacity-2.field-0.items 0 c.from-limit.result c.args.room)) (sym c.in_ok-with_capacity.ensures.items)
          (regular_none c.in_ok-with_capacity-2.field-0.items c.from-limit.result c.args.room);
      places = record {
        left = subst (λ (l : List Dropped). HaveRoom c.args.room l) (sym c.in_ok-with_capacity-2.ensures.items) tt;
        free = c.in_ok-open_places.ensures.rooms;
        count = omega (arith, nobody, c.in_ok-with_capacity.ensures.len, c.in_ok-open_places.ensures.count);
        few = omega (arith, c.in_ok-with_capacity.ensures.len, c.in_ok-with_capacity-2.ensures.len);
        present_room = c.in_ok-with_capacity.ensures.capacity;
        dropped_room = c.in_ok-with_capacity-2.ensures.capacity;
        free_room = c.in_ok-open_places.ensures.capacity;
      };
    }
