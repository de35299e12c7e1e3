use Rattle.std.proofs.Common.{◌≡◌, ◌+◌, ◌<◌, length, ap, sym, ◌∙◌, subst, arith}
use Rattle.kit_bytes.proofs.Lists.{all_at, all_push}
use Rattle.connections.specs.Table.{Connection, Dropped, Table}
use Rattle.connections.specs.Places.{HasRoom, place_in, places_in}
use Rattle.connections.proofs.Rooms.{places_push}
use Rattle.connections.proofs.Regular.{regular_removed}
use Rattle.connections.proofs.Tables.{dropped_is}
use Rattle.connections.proofs.connections.Connections.drop_at.Goals as goal

pub invariant_of-self : goal.invariant_of-self
invariant_of-self g c =
    let k : Connection g.row.T.Denot = c.remove-connection.result in
    let within = subst (λ (o : Table g.row.T.Denot). c.args.place < length o.present) (sym c.self.view_is) c.requires in
    let room : k.outbox.capacity ≡ c.self.inside.room =
    subst (λ (l : Connection g.row.T.Denot). l.outbox.capacity ≡ c.self.inside.room) (sym c.remove-connection.ensures.value)
    (all_at (λ (l : Connection g.row.T.Denot). l.outbox.capacity ≡ c.self.inside.room) c.self.inside.present.items c.args.place k c.self.invariant.regular.rooms within)
    in
    let has_room : HasRoom c.self.inside.room c.new.result.outbox = subst (λ (d : Dropped). HasRoom c.self.inside.room d.outbox) (sym c.new.ensures) (ap (λ q. q.capacity) c.into_place.ensures ∙ room) in
    let places : places_in c.push_reserved.new.self.items ≡ places_in c.self.inside.dropped.items + 1 =
    ap places_in c.push_reserved.ensures.items ∙ places_push c.self.inside.dropped.items c.new.result ∙ ap (λ (d : Dropped). places_in c.self.inside.dropped.items + place_in d.outbox) c.new.ensures
    in record {
      regular = rw c.remove-connection.ensures.items (regular_removed c.self.invariant.regular c.push_reserved.new.self.items c.args.place);
      places = record {
        left = rw c.push_reserved.ensures.items (all_push (λ (d : Dropped). HasRoom c.self.inside.room d.outbox) c.self.inside.dropped.items c.new.result c.self.invariant.places.left has_room);
        free = c.self.invariant.places.free;
        count = omega (arith, places, c.self.invariant.places.count, c.remove-connection.ensures.len);
        few = omega (arith, c.self.invariant.places.few, c.remove-connection.ensures.len, c.push_reserved.ensures.len);
        present_room = omega (arith, c.self.invariant.places.present_room, c.remove-connection.ensures.capacity);
        dropped_room = omega (arith, c.self.invariant.places.dropped_room, c.push_reserved.ensures.capacity);
        free_room = c.self.invariant.places.free_room;
      };
    }

pub returns : goal.returns
returns g c = λ k at.
    dropped_is c.self.view_is c.args.place k c.remove-connection.result at c.requires c.remove-connection.ensures.value
    c.remove-connection.new.self.items c.push_reserved.new.self.items c.new.result c.name-name.result c.into_place.result.outbox c.remove-connection.ensures.items c.push_reserved.ensures.items c.new.ensures c.name-name.ensures c.into_place.ensures
