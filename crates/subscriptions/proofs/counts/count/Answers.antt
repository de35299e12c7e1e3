use Rattle.std.proofs.Common.{◌+◌, length, ap, sym, ◌∙◌, subst, arith, rules}
use Rattle.subscriptions.specs.Counts.{AreCounts, StandsAt, count_of, total}
use Rattle.subscriptions.proofs.Counting.{pairs_few, set_right, raised, insert_right, insert_count, insert_total}
use Rattle.subscriptions.proofs.counts.count.Goals as goal

pub returns-then-stands_at-clause-counts : goal.returns-then-stands_at-clause-counts
returns-then-stands_at-clause-counts c =
    let stands : StandsAt c.args.pair.now c.args.counts.now.items c.place_of-place.result = search (rules, c.if-stands_at.ensures.there) in
    set_right c.args.counts.now.items c.place_of-place.result c.index_mut.result.now c.requires.counts stands.within c.index_mut.ensures.value (c.index_mut.result.now.times + 1) (omega arith)

pub returns-then-stands_at-clause-counted : goal.returns-then-stands_at-clause-counted
returns-then-stands_at-clause-counted c = λ other.
    let stands : StandsAt c.args.pair.now c.args.counts.now.items c.place_of-place.result = search (rules, c.if-stands_at.ensures.there) in
    raised c.args.counts.now.items c.place_of-place.result c.index_mut.result.now c.requires.counts stands.within c.index_mut.ensures.value c.args.pair.now stands other

pub returns-clause-counts : goal.returns-clause-counts
returns-clause-counts c =
    subst AreCounts (sym c.put.ensures.items)
    (insert_right c.args.pair.now c.args.counts.now.items c.place_of-place.result c.requires.counts (search (rules, c.place_of-place.ensures)) (search (rules, c.if-stands_at.ensures.other)))

pub returns-clause-counted : goal.returns-clause-counted
returns-clause-counted c = λ other. ap (count_of other) c.put.ensures.items ∙ insert_count c.args.pair.now c.args.counts.now.items c.place_of-place.result other

pub returns-clause-total : goal.returns-clause-total
returns-clause-total c = ap total c.put.ensures.items ∙ insert_total c.args.pair.now c.args.counts.now.items c.place_of-place.result

pub put-requires-clause-room : goal.put-requires-clause-room
put-requires-clause-room c =
    let few = pairs_few c.args.counts.now.items c.requires.counts.positive in
    omega (arith, few, c.requires.few, c.requires.room, c.deref.ensures.len, ap (λ l. length l) c.deref.ensures.value)
