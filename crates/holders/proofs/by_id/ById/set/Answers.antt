use Rattle.std.proofs.Common.{◌<◌, ◌∷◌, ◌++◌, length, take, drop, set, ap, sym, ◌∙◌, arith, subst, List}
use Rattle.proxy_history.specs.ClientIds.{Grant}
use Rattle.holders.specs.Grants.{AreInOrder, AreBytes, IsFoundAt, IsPlaceOf, granted}
use Rattle.holders.proofs.Places.{found_set, ordered_set, bytes_set, absent_granted, absent_room, inserted, bytes_insert}
use Rattle.holders.proofs.by_id.ById.set.Goals as goal

pub invariant_of-self : goal.invariant_of-self
invariant_of-self c =
    let found : IsFoundAt c.args.service c.args.cid c.self.inside.rows.items c.in-Ok.index = subst (λ (l : List Grant). IsFoundAt c.args.service c.args.cid l c.in-Ok.index) c.deref.ensures.value c.in-Ok.ensures.found in
    let service = ap (λ (g : Grant). g.service) c.new-row.ensures in
    let cid = ap (λ (g : Grant). g.cid) c.new-row.ensures in
    record {
      ordered = ordered_set c.args.service c.args.cid c.in-Ok.index c.self.inside.rows.items c.new-row.result service cid c.self.invariant.ordered found;
      bytes = bytes_set c.in-Ok.index c.self.inside.rows.items c.new-row.result c.self.invariant.bytes (omega (arith, c.ranges.service, service)) (omega (arith, c.ranges.cid, cid));
      room = c.self.invariant.room;
    }

pub returns-in-Ok : goal.returns-in-Ok
returns-in-Ok c =
    let found : IsFoundAt c.args.service c.args.cid c.self.inside.rows.items c.in-Ok.index = subst (λ (l : List Grant). IsFoundAt c.args.service c.args.cid l c.in-Ok.index) c.deref.ensures.value c.in-Ok.ensures.found in
    ap (λ (g : Grant). set c.self.inside.rows.items c.in-Ok.index g) c.new-row.ensures
    ∙ found_set c.args.number c.args.service c.args.cid c.in-Ok.index c.self.inside.rows.items c.new-row.result c.self.invariant.ordered found ∙ ap (granted c.args.number c.args.service c.args.cid) c.self.view_is

pub put-requires : goal.put-requires
put-requires c =
    let at : IsPlaceOf c.args.service c.args.cid c.self.inside.rows.items c.in-Err.place = subst (λ (l : List Grant). IsPlaceOf c.args.service c.args.cid l c.in-Err.place) c.deref.ensures.value c.in-Err.ensures.absent in
    let room : length c.self.inside.rows.items < 65536 = absent_room c.args.service c.args.cid c.in-Err.place c.self.inside.rows.items c.self.invariant.ordered c.self.invariant.bytes (omega (arith, c.ranges.service)) (omega (arith, c.ranges.cid)) at in
    record { place = omega (arith, at.within); room = omega (arith, c.self.invariant.room) }

pub returns-in-Err : goal.returns-in-Err
returns-in-Err c =
    let at : IsPlaceOf c.args.service c.args.cid c.self.inside.rows.items c.in-Err.place = subst (λ (l : List Grant). IsPlaceOf c.args.service c.args.cid l c.in-Err.place) c.deref.ensures.value c.in-Err.ensures.absent in
    c.put.ensures.items ∙ ap (λ (g : Grant). take c.in-Err.place c.self.inside.rows.items ++ g ∷ drop c.in-Err.place c.self.inside.rows.items) c.new-row.ensures
    ∙ sym (absent_granted c.args.number c.args.service c.args.cid c.in-Err.place c.self.inside.rows.items at) ∙ ap (granted c.args.number c.args.service c.args.cid) c.self.view_is

pub invariant_of-self-in-Err : goal.invariant_of-self-in-Err
invariant_of-self-in-Err c =
    let at : IsPlaceOf c.args.service c.args.cid c.self.inside.rows.items c.in-Err.place = subst (λ (l : List Grant). IsPlaceOf c.args.service c.args.cid l c.in-Err.place) c.deref.ensures.value c.in-Err.ensures.absent in
    let service = ap (λ (g : Grant). g.service) c.new-row.ensures in
    let cid = ap (λ (g : Grant). g.cid) c.new-row.ensures in
    record {
      ordered = subst AreInOrder (sym c.put.ensures.items) (inserted c.args.service c.args.cid c.in-Err.place c.self.inside.rows.items c.new-row.result service cid c.self.invariant.ordered at);
      bytes =
          subst (λ (l : List Grant). AreBytes l) (sym c.put.ensures.items)
          (bytes_insert c.in-Err.place c.self.inside.rows.items c.new-row.result c.self.invariant.bytes (omega (arith, c.ranges.service, service)) (omega (arith, c.ranges.cid, cid)));
      room = omega (arith, c.self.invariant.room, c.put.ensures.capacity);
    }
