use Rattle.std.proofs.Common.{◌<◌, not, filter, ap, sym, ◌∙◌, arith, subst, List}
use Rattle.proxy_history.specs.ClientIds.{Grant, is_of}
use Rattle.holders.specs.Grants.{IsAhead, AreInOrder, AreBytes, IsFoundAt, IsPlaceOf}
use Rattle.kit_bytes.proofs.Sorted.{in_order_remove}
use Rattle.kit_bytes.proofs.Lists.{all_remove}
use Rattle.holders.proofs.Places.{found_removed, absent_removed}
use Rattle.holders.proofs.by_id.ById.forget.Goals as goal

pub returns-in-Ok-clause-ids : goal.returns-in-Ok-clause-ids
returns-in-Ok-clause-ids c =
    let found : IsFoundAt c.args.service c.args.cid c.self.inside.rows.items c.in-Ok.index = subst (λ (l : List Grant). IsFoundAt c.args.service c.args.cid l c.in-Ok.index) c.deref.ensures.value c.in-Ok.ensures.found in
    c.remove.ensures.items ∙ found_removed c.args.service c.args.cid c.in-Ok.index c.self.inside.rows.items c.self.invariant.ordered found ∙ ap (filter (λ g. not (is_of c.args.service c.args.cid g))) c.self.view_is

pub returns-in-Err-clause-ids : goal.returns-in-Err-clause-ids
returns-in-Err-clause-ids c =
    absent_removed c.args.service c.args.cid c.in-Err.field-0 c.args.self.now (subst (λ (l : List Grant). IsPlaceOf c.args.service c.args.cid l c.in-Err.field-0) (c.deref.ensures.value ∙ c.self.view_is) c.in-Err.ensures.absent)

pub invariant_of-self : goal.invariant_of-self
invariant_of-self c = record {
  ordered = subst AreInOrder (sym c.remove.ensures.items) (in_order_remove IsAhead c.self.inside.rows.items c.in-Ok.index c.self.invariant.ordered);
  bytes = subst (λ (l : List Grant). AreBytes l) (sym c.remove.ensures.items) (all_remove (λ g. (g.service < 256) × (g.cid < 256)) c.self.inside.rows.items c.in-Ok.index c.self.invariant.bytes);
  room = omega (arith, c.self.invariant.room, c.remove.ensures.capacity);
}
