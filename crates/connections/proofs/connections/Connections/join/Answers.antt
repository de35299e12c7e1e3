use Rattle.std.proofs.Common.{◌≡◌, ◌+◌, ◌<◌, length, ap, sym, ◌∙◌, subst, arith}
use Rattle.std.specs.List.{AllByRecursion}
use Rattle.kit_bytes.proofs.Lists.{all_apart, all_push}
use Rattle.connections.specs.Table.{Connection, Dropped, Table}
use Rattle.connections.specs.Places.{HasRoom, place_in, places_in}
use Rattle.connections.proofs.Rooms.{places_push}
use Rattle.connections.proofs.Regular.{regular_joined, regular_refused}
use Rattle.connections.proofs.Tables.{joined_is}
use Rattle.connections.proofs.connections.Connections.join.Goals as goal

pub invariant_of-self : goal.invariant_of-self
invariant_of-self g c =
    let above : c.self.inside.greatest < c.args.name = subst (λ (o : Table g.row.T.Denot). o.greatest < c.args.name) (sym c.self.view_is) c.requires.newer in
    let apart = all_apart (λ p. p.outbox.capacity ≡ c.self.inside.room) c.pop.new.self.items _ (subst (λ l. AllByRecursion (λ p. p.outbox.capacity ≡ c.self.inside.room) l) c.in_default.ensures.items c.self.invariant.places.free) in
    let has_room : HasRoom c.self.inside.room c.refused.result.outbox = subst (λ (d : Dropped). HasRoom c.self.inside.room d.outbox) (sym c.refused.ensures) tt in
    let places : places_in c.push_reserved.new.self.items ≡ places_in c.self.inside.dropped.items + 0 =
    ap places_in c.push_reserved.ensures.items ∙ places_push c.self.inside.dropped.items c.refused.result ∙ ap (λ (d : Dropped). places_in c.self.inside.dropped.items + place_in d.outbox) c.refused.ensures
    in
    let none : length c.self.inside.dropped.items ≡ 0 = ap length (ap (λ (o : Table g.row.T.Denot). o.dropped) c.self.view_is ∙ c.requires.hung_up) in
    record {
      regular = regular_refused c.self.invariant.regular c.push_reserved.new.self.items c.args.name above;
      places = record {
        left = rw c.push_reserved.ensures.items (all_push (λ (d : Dropped). HasRoom c.self.inside.room d.outbox) c.self.inside.dropped.items c.refused.result c.self.invariant.places.left has_room);
        free = apart.0;
        count = omega (arith, places, c.self.invariant.places.count, c.in_default.ensures.cases);
        few = omega (arith, none, c.self.inside.dropped.ok, c.push_reserved.ensures.len, c.self.inside.present.ok, c.self.invariant.regular.few);
        present_room = c.self.invariant.places.present_room;
        dropped_room = omega (arith, c.self.invariant.places.dropped_room, c.push_reserved.ensures.capacity);
        free_room = omega (arith, c.self.invariant.places.free_room, c.pop.ensures.capacity);
      };
    }

pub invariant_of-self-2 : goal.invariant_of-self-2
invariant_of-self-2 g c =
    let above : c.self.inside.greatest < c.args.name = subst (λ (o : Table g.row.T.Denot). o.greatest < c.args.name) (sym c.self.view_is) c.requires.newer in
    let apart = all_apart (λ p. p.outbox.capacity ≡ c.self.inside.room) c.pop.new.self.items _ (subst (λ l. AllByRecursion (λ p. p.outbox.capacity ≡ c.self.inside.room) l) c.in-Some.ensures.items c.self.invariant.places.free) in
    let k : Connection g.row.T.Denot = c.begin.result in
    let few : length c.self.inside.present.items < c.self.inside.limit = omega (arith, c.self.invariant.places.count, c.in-Some.ensures.cases, c.self.inside.present.ok) in
    let none : length c.self.inside.dropped.items ≡ 0 = ap length (ap (λ (o : Table g.row.T.Denot). o.dropped) c.self.view_is ∙ c.requires.hung_up) in
    record {
      regular = rw c.push_reserved-2.ensures.items (regular_joined c.self.invariant.regular k c.args.name above (ap (λ (l : Connection g.row.T.Denot). l.name) c.begin.ensures) (ap (λ (l : Connection g.row.T.Denot). l.outbox.capacity) c.begin.ensures ∙ apart.1.0) few);
      places = record {
        left = c.self.invariant.places.left;
        free = apart.0;
        count = omega (arith, c.self.invariant.places.count, c.in-Some.ensures.cases, c.push_reserved-2.ensures.len);
        few = omega (arith, none, few, c.self.inside.dropped.ok, c.push_reserved-2.ensures.len, c.self.inside.present.ok);
        present_room = omega (arith, c.self.invariant.places.present_room, c.push_reserved-2.ensures.capacity);
        dropped_room = c.self.invariant.places.dropped_room;
        free_room = omega (arith, c.self.invariant.places.free_room, c.pop.ensures.capacity);
      };
    }

pub returns-clause-joined : goal.returns-clause-joined
returns-clause-joined g c =
    let apart = all_apart (λ p. p.outbox.capacity ≡ c.self.inside.room) c.pop.new.self.items _ (subst (λ l. AllByRecursion (λ p. p.outbox.capacity ≡ c.self.inside.room) l) c.in-Some.ensures.items c.self.invariant.places.free) in
    let few : length c.self.inside.present.items < c.self.inside.limit = omega (arith, c.self.invariant.places.count, c.in-Some.ensures.cases, c.self.inside.present.ok) in
    joined_is c.self.view_is c.args.name g.T.Renews.fresh c.push_reserved-2.new.self.items c.begin.result c.in-Some.place.outbox.capacity few c.push_reserved-2.ensures.items c.begin.ensures apart.1.0
