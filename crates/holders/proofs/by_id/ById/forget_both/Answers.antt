use Rattle.std.proofs.Common.{◌≡◌, not, filter, ap, sym, ◌∙◌, arith, rules, subst, List}
use Rattle.std.proofs.lemmas.Fn.{filter_same}
use Rattle.proxy_history.specs.ClientIds.{Grant}
use Rattle.holders.specs.Grants.{IsAhead, AreInOrder, AreBytes, is_of_both}
use Rattle.kit_bytes.proofs.Sorted.{in_order_filter}
use Rattle.holders.proofs.Order.{bytes_filter}
use Rattle.holders.proofs.by_id.ById.forget_both.Goals as goal

pub returns : goal.returns
returns c =
    let left : c.retain.new.self.items ≡ filter (λ g. not (is_of_both c.args.number c.args.service c.args.cid g)) c.self.inside.rows.items = filter_same _ _ _ (λ x b f' k. search rules) _ _ c.retain.ensures.filtered in
    left ∙ ap (filter (λ g. not (is_of_both c.args.number c.args.service c.args.cid g))) c.self.view_is

pub invariant_of-self : goal.invariant_of-self
invariant_of-self c =
    let left : c.retain.new.self.items ≡ filter (λ g. not (is_of_both c.args.number c.args.service c.args.cid g)) c.self.inside.rows.items = filter_same _ _ _ (λ x b f' k. search rules) _ _ c.retain.ensures.filtered in
    record {
      ordered = subst AreInOrder (sym left) (in_order_filter IsAhead (λ g. not (is_of_both c.args.number c.args.service c.args.cid g)) c.self.inside.rows.items c.self.invariant.ordered);
      bytes = subst (λ (l : List Grant). AreBytes l) (sym left) (bytes_filter (λ g. not (is_of_both c.args.number c.args.service c.args.cid g)) c.self.inside.rows.items c.self.invariant.bytes);
      room = omega (arith, c.self.invariant.room, c.retain.ensures.capacity);
    }
