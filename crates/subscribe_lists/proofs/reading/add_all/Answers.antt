use Rattle.std.proofs.Common.{ℕ, nat_le, List, length, map, refl, sym, ◌∙◌, ap, subst, IsSome, Option, Contains}
use Rattle.std.specs.List.Sorted.{IsPermutation}
use Rattle.kit_bytes.specs.Subscriptions.{Pair}
use Rattle.mbim_services.specs.EventLists.{pairs_in}
use Rattle.mbim_services.specs.SubscribeLists.{numbers_of}
use Rattle.subscribe_lists.specs.Structures.{IsWholeAt, offsets}
use Rattle.subscribe_lists.proofs.Orders.{references, referred_whole, order_whole, order_form, order_services}
use Rattle.subscribe_lists.proofs.reading.add_all.Goals as goal

pub references_of-requires : goal.references_of-requires
references_of-requires c = subst (λ (o : Option (List Pair)). IsSome o) (sym c.requires.list) refl

pub bring_in_order-requires : goal.bring_in_order-requires
bring_in_order-requires c = record {
  whole = subst (λ (l : List ℕ). (offset : ℕ) → Contains (offsets (numbers_of l)) offset → IsWholeAt c.args.buffer.now offset) (sym c.references_of.ensures) (referred_whole c.args.buffer.now (pairs_in c.args.events.now) c.requires.list);
}

pub add_ordered-requires-clause-whole : goal.add_ordered-requires-clause-whole
add_ordered-requires-clause-whole c =
    let buffer : List ℕ = c.args.buffer.now in
    let pairs : List Pair = pairs_in c.args.events.now in
    let shuffled : IsPermutation (offsets (references buffer)) (map (λ (it : ℕ × ℕ). it.1) c.as_slice.result.now) =
    subst (λ (l : List (ℕ × ℕ)). IsPermutation (offsets (references buffer)) (map (λ (it : ℕ × ℕ). it.1) l)) (sym c.as_slice.ensures.value)
    (subst (λ (l : List ℕ). IsPermutation (offsets (numbers_of l)) (map (λ (it : ℕ × ℕ). it.1) c.bring_in_order.new.order.items)) c.references_of.ensures (c.bring_in_order.ensures c.if-bring_in_order.true)) in
    order_whole buffer pairs c.requires.list c.as_slice.result.now shuffled

pub add_ordered-requires-clause-services : goal.add_ordered-requires-clause-services
add_ordered-requires-clause-services c =
    let buffer : List ℕ = c.args.buffer.now in
    let pairs : List Pair = pairs_in c.args.events.now in
    let shuffled : IsPermutation (offsets (references buffer)) (map (λ (it : ℕ × ℕ). it.1) c.as_slice.result.now) =
    subst (λ (l : List (ℕ × ℕ)). IsPermutation (offsets (references buffer)) (map (λ (it : ℕ × ℕ). it.1) l)) (sym c.as_slice.ensures.value)
    (subst (λ (l : List ℕ). IsPermutation (offsets (numbers_of l)) (map (λ (it : ℕ × ℕ). it.1) c.bring_in_order.new.order.items)) c.references_of.ensures (c.bring_in_order.ensures c.if-bring_in_order.true)) in
    c.requires.services ∙ order_services buffer pairs c.requires.list c.as_slice.result.now shuffled

pub returns-then-bring_in_order-clause-few : goal.returns-then-bring_in_order-clause-few
returns-then-bring_in_order-clause-few c =
    let buffer : List ℕ = c.args.buffer.now in
    let pairs : List Pair = pairs_in c.args.events.now in
    let shuffled : IsPermutation (offsets (references buffer)) (map (λ (it : ℕ × ℕ). it.1) c.as_slice.result.now) =
    subst (λ (l : List (ℕ × ℕ)). IsPermutation (offsets (references buffer)) (map (λ (it : ℕ × ℕ). it.1) l)) (sym c.as_slice.ensures.value)
    (subst (λ (l : List ℕ). IsPermutation (offsets (numbers_of l)) (map (λ (it : ℕ × ℕ). it.1) c.bring_in_order.new.order.items)) c.references_of.ensures (c.bring_in_order.ensures c.if-bring_in_order.true)) in
    c.add_ordered.ensures.few ∙ ap (λ (l : List Pair). nat_le (length l) 30) (sym (order_form buffer pairs c.requires.list c.as_slice.result.now shuffled))

pub returns-then-bring_in_order-clause-list : goal.returns-then-bring_in_order-clause-list
returns-then-bring_in_order-clause-list c =
    let buffer : List ℕ = c.args.buffer.now in
    let pairs : List Pair = pairs_in c.args.events.now in
    let shuffled : IsPermutation (offsets (references buffer)) (map (λ (it : ℕ × ℕ). it.1) c.as_slice.result.now) =
    subst (λ (l : List (ℕ × ℕ)). IsPermutation (offsets (references buffer)) (map (λ (it : ℕ × ℕ). it.1) l)) (sym c.as_slice.ensures.value)
    (subst (λ (l : List ℕ). IsPermutation (offsets (numbers_of l)) (map (λ (it : ℕ × ℕ). it.1) c.bring_in_order.new.order.items)) c.references_of.ensures (c.bring_in_order.ensures c.if-bring_in_order.true)) in
    λ short. c.add_ordered.ensures.list short ∙ sym (order_form buffer pairs c.requires.list c.as_slice.result.now shuffled)
