use Rattle.std.proofs.Common.{◌≡◌, ap, sym, subst, arith}
use Rattle.std.specs.List.{remove}
use Rattle.kit_bytes.proofs.Lists.{all_push, all_remove}
use Rattle.connections.specs.Table.{Dropped}
use Rattle.connections.specs.Places.{HasRoom, place_in, places_in}
use Rattle.connections.proofs.Rooms.{first_asked}
use Rattle.connections.proofs.connections.Connections.next_dropped.Goals as goal

pub invariant_of-self : goal.invariant_of-self
invariant_of-self g c =
    let r = c.self.invariant.regular in
    let p = c.self.invariant.places in
    let first =
    first_asked c.self.inside.room c.self.inside.dropped.items c.remove-dropped.result
    (omega (arith, c.remove-dropped.ensures.len, c.self.inside.dropped.ok)) c.remove-dropped.ensures.value p.left
    in
    let left : places_in c.remove-dropped.new.self.items ≡ places_in (remove c.self.inside.dropped.items 0) = ap places_in c.remove-dropped.ensures.items in
    let one : 1 ≡ place_in c.remove-dropped.result.outbox = ap place_in c.in-Some.ensures in
    record {
      regular = record { rising = r.rising; known = r.known; rooms = r.rooms; few = r.few };
      places = record {
        left = rw c.remove-dropped.ensures.items (all_remove (λ (d : Dropped). HasRoom c.self.inside.room d.outbox) c.self.inside.dropped.items 0 p.left);
        free = rw c.push_reserved.ensures.items (all_push (λ p. p.outbox.capacity ≡ c.self.inside.room) c.self.inside.free.items c.in-Some.place p.free (subst (HasRoom c.self.inside.room) (sym c.in-Some.ensures) first.0));
        count = omega (arith, first.1, left, one, p.count, c.push_reserved.ensures.len);
        few = omega (arith, p.few, c.remove-dropped.ensures.len);
        present_room = p.present_room;
        dropped_room = omega (arith, p.dropped_room, c.remove-dropped.ensures.capacity);
        free_room = omega (arith, p.free_room, c.push_reserved.ensures.capacity);
      };
    }
