use Rattle.std.proofs.Common.{◌+◌, ◌*◌, ℕ, List, ◌∷◌, length, drop, arith, ap, sym, ◌∙◌, IsSome, subst}
use Rattle.std.proofs.lemmas.Slice.{between_to_end}
use Rattle.kit_bytes.specs.Numbers.{number_at}
use Rattle.kit_bytes.specs.Subscriptions.{Subscription}
use Rattle.mbim_services.specs.SubscribeLists.{numbers_of, pairs_at}
use Rattle.mbim_services.specs.EventLists.{events_referred}
use Rattle.mbim_services.proofs.Ranges.{events-at, first_at, some-whole, whole-at}
use Rattle.mbim_services.proofs.event_list.nth_range.Goals as goal

pub unwrap-requires : goal.unwrap-requires
unwrap-requires c =
    let behind = between_to_end c.args.references.now (8 * c.args.place) (length c.args.references.now) (omega arith) in
    let whole = whole-at c.args.place c.args.buffer.now c.args.references.now c.requires.place c.requires.whole in
    some-whole c.range_at.result _ _ c.range_at.ensures.pairs (subst (λ (l : List ℕ). IsSome (pairs_at c.args.buffer.now (number_at l 0 4) (number_at l 4 4))) (sym behind) whole)

pub returns-clause-event : goal.returns-clause-event
returns-clause-event c =
    let behind = between_to_end c.args.references.now (8 * c.args.place) (length c.args.references.now) (omega arith) in
    let there = events-at c.args.place c.args.buffer.now c.args.references.now c.requires.place in
    let next : List Subscription = drop (c.args.place + 1) (events_referred c.args.buffer.now (numbers_of c.args.references.now)) in
    let is = rw c.unwrap.ensures at c.range_at.ensures.event in
    there ∙ ap (λ (s : Subscription). s ∷ next) (sym (is ∙ ap (first_at c.args.buffer.now) behind))
