use Rattle.std.proofs.Common.{◌≡◌, not, filter, ap, sym, ◌∙◌, arith, rules, subst, List, ◌∷◌, ◌++◌, take, drop, true, false, length, Contains}
use Rattle.std.specs.List.Sorted.{IsPartitionPoint}
use Rattle.std.specs.Ordering.{is_lt}
use Rattle.std.proofs.lemmas.List.Sorted.{IsPartitionPoint-from_clause}
use Rattle.kit_bytes.specs.Subscriptions.{Pair, pair_cmp, pairs_with}
use Rattle.subscriptions.specs.Lists.{AreInOrder, covers}
use Rattle.subscriptions.proofs.Order.{halved, put_in_order}
use Rattle.subscriptions.proofs.NormalForms.{push_new, kept_absent, kept_in_order}
use Rattle.subscriptions.proofs.pair_list.add.Goals as goal

pub put-requires-clause-room : goal.put-requires-clause-room
put-requires-clause-room c =
    let kept : length c.remove_covered.new.pairs.items ≡ length (filter (λ q. not (covers c.args.pair q)) c.args.pairs.now.items) = ap (λ (l : List Pair). length l) c.remove_covered.ensures.items in
    omega (arith, kept, c.requires.room, c.remove_covered.ensures.capacity)

pub returns-clause-items : goal.returns-clause-items
returns-clause-items c =
    let kept : List Pair = filter (λ q. not (covers c.args.pair q)) c.args.pairs.now.items in
    let is : c.remove_covered.new.pairs.items ≡ kept = c.remove_covered.ensures.items in
    let ordered : AreInOrder c.deref.result.now = subst AreInOrder (sym (c.deref.ensures.value ∙ is)) (kept_in_order c.args.pairs.now.items c.args.pair c.requires.normal) in
    let absent : Contains c.deref.result.now c.args.pair → ⊥ = subst (λ (l : List Pair). Contains l c.args.pair → ⊥) (sym (c.deref.ensures.value ∙ is)) (kept_absent c.args.pairs.now.items c.args.pair c.requires.normal) in
    let point : IsPartitionPoint (λ x. is_lt (pair_cmp x c.args.pair) ≡ true) (λ x. is_lt (pair_cmp x c.args.pair) ≡ false) c.deref.result.now c.partition_point-place.result =
    IsPartitionPoint-from_clause (λ x. is_lt (pair_cmp x c.args.pair)) c.deref.result.now c.partition_point-place.result c.partition_point-place.ensures.partitioned (halved c.args.pair c.deref.result.now ordered) (λ a r f' k. search rules)
    in
    c.put.ensures.items ∙ ap (λ (l : List Pair). take c.partition_point-place.result l ++ c.args.pair ∷ drop c.partition_point-place.result l) (sym c.deref.ensures.value)
    ∙ put_in_order c.args.pair c.deref.result.now c.partition_point-place.result point.0 point.1 c.partition_point-place.ensures.bound absent
    ∙ ap (pairs_with c.args.pair) (c.deref.ensures.value ∙ is) ∙ sym (push_new c.args.pairs.now.items c.args.pair c.requires.normal c.requires.uncovered)
