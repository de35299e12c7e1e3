use Rattle.std.proofs.Common.{◌≡◌, ◌<◌, length, ap, sym, ◌∙◌, subst, arith}
use Rattle.kit_bytes.proofs.Lists.{all_at, all_push}
use Rattle.connections.specs.Table.{Connection, Table}
use Rattle.connections.proofs.Named.{inside}
use Rattle.connections.proofs.Regular.{regular_removed}
use Rattle.connections.proofs.Tables.{left_is, left_some, left_none}
use Rattle.connections.proofs.connections.Connections.leave.Goals as goal

pub returns-in_default : goal.returns-in_default
returns-in_default g c = let all = left_none c.args.self.now c.args.name c.in_default.ensures.place in record { left = all.0; there = all.1; regular = c.in_default.ensures.regular }

pub invariant_of-self : goal.invariant_of-self
invariant_of-self g c =
    let k : Connection g.row.T.Denot = c.remove-connection.result in
    let within = subst (λ (o : Table g.row.T.Denot). c.in-Some.place < length o.present) (sym c.self.view_is) (inside c.args.name c.args.self.now.present c.in-Some.place c.in-Some.ensures.place k) in
    let room : k.outbox.capacity ≡ c.self.inside.room =
    subst (λ (l : Connection g.row.T.Denot). l.outbox.capacity ≡ c.self.inside.room) (sym c.remove-connection.ensures.value)
    (all_at (λ (l : Connection g.row.T.Denot). l.outbox.capacity ≡ c.self.inside.room) c.self.inside.present.items c.in-Some.place k c.self.invariant.regular.rooms within)
    in record {
      regular = rw c.remove-connection.ensures.items (regular_removed c.self.invariant.regular c.self.inside.dropped.items c.in-Some.place);
      places = record {
        left = c.self.invariant.places.left;
        free = rw c.push_reserved.ensures.items (all_push (λ p. p.outbox.capacity ≡ c.self.inside.room) c.self.inside.free.items c.into_place.result c.self.invariant.places.free (ap (λ q. q.capacity) c.into_place.ensures ∙ room));
        count = omega (arith, c.self.invariant.places.count, c.remove-connection.ensures.len, c.push_reserved.ensures.len);
        few = omega (arith, c.self.invariant.places.few, c.remove-connection.ensures.len);
        present_room = omega (arith, c.self.invariant.places.present_room, c.remove-connection.ensures.capacity);
        dropped_room = c.self.invariant.places.dropped_room;
        free_room = omega (arith, c.self.invariant.places.free_room, c.push_reserved.ensures.capacity);
      };
    }

pub returns : goal.returns
returns g c = record {
  left = left_is c.self.view_is c.args.name c.in-Some.place c.in-Some.ensures.place c.remove-connection.result c.remove-connection.ensures.value c.remove-connection.new.self.items c.remove-connection.ensures.items;
  there = left_some c.self.view_is c.args.name c.in-Some.place c.in-Some.ensures.place c.remove-connection.result c.remove-connection.ensures.value;
  regular = c.find.ensures.regular;
}
