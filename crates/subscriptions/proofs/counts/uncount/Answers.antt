use Rattle.std.proofs.Common.{◌+◌, ◌-◌, length, ap, sym, ◌∙◌, subst, arith}
use Rattle.subscriptions.specs.Counts.{AreCounts, count_of, once}
use Rattle.subscriptions.proofs.Counting.{stands_in, was_positive, left_positive, set_right, set_total, lowered, removed, remove_right}
use Rattle.subscriptions.proofs.counts.uncount.Goals as goal

pub index-requires : goal.index-requires
index-requires c =
    let stands = stands_in c.args.pair.now c.place_of-place.result c.deref.ensures.value c.requires.counts c.place_of-place.ensures c.requires.there in
    omega (arith, stands.within, c.deref.ensures.len, ap (λ l. length l) c.deref.ensures.value)

pub remove-requires : goal.remove-requires
remove-requires c =
    let stands = stands_in c.args.pair.now c.place_of-place.result c.deref.ensures.value c.requires.counts c.place_of-place.ensures c.requires.there in
    omega (arith, stands.within, c.deref.ensures.len, ap (λ l. length l) c.deref.ensures.value)

pub returns-then-index-eq1-clause-counts : goal.returns-then-index-eq1-clause-counts
returns-then-index-eq1-clause-counts c = subst AreCounts (sym c.remove.ensures.items) (remove_right c.args.counts.now.items c.place_of-place.result c.requires.counts)

pub returns-then-index-eq1-clause-counted : goal.returns-then-index-eq1-clause-counted
returns-then-index-eq1-clause-counted c = λ other.
    let stands = stands_in c.args.pair.now c.place_of-place.result c.deref.ensures.value c.requires.counts c.place_of-place.ensures c.requires.there in
    ap (λ l. count_of other l + once other c.args.pair.now) c.remove.ensures.items
    ∙ removed c.args.counts.now.items c.place_of-place.result c.index.result.now c.requires.counts stands.within c.index.ensures c.args.pair.now stands other c.if-index-eq1.true

pub index_mut-requires : goal.index_mut-requires
index_mut-requires c =
    let stands = stands_in c.args.pair.now c.place_of-place.result c.deref.ensures.value c.requires.counts c.place_of-place.ensures c.requires.there in
    omega (arith, stands.within, c.deref.ensures.len, ap (λ l. length l) c.deref.ensures.value)

pub overflow_sub-index_mut : goal.overflow_sub-index_mut
overflow_sub-index_mut c =
    let stands = stands_in c.args.pair.now c.place_of-place.result c.deref.ensures.value c.requires.counts c.place_of-place.ensures c.requires.there in
    omega (arith, was_positive c.args.counts.now.items c.place_of-place.result c.index_mut.result.now c.requires.counts stands.within c.index_mut.ensures.value)

pub returns-clause-counts : goal.returns-clause-counts
returns-clause-counts c =
    let stands = stands_in c.args.pair.now c.place_of-place.result c.deref.ensures.value c.requires.counts c.place_of-place.ensures c.requires.there in
    set_right c.args.counts.now.items c.place_of-place.result c.index_mut.result.now c.requires.counts stands.within c.index_mut.ensures.value (c.index_mut.result.now.times - 1)
    (left_positive c.args.counts.now.items c.place_of-place.result c.index_mut.result.now c.requires.counts stands.within c.index_mut.ensures.value c.index.result.now c.index.ensures c.if-index-eq1.false)

pub returns-clause-counted : goal.returns-clause-counted
returns-clause-counted c = λ other.
    let stands = stands_in c.args.pair.now c.place_of-place.result c.deref.ensures.value c.requires.counts c.place_of-place.ensures c.requires.there in
    lowered c.args.counts.now.items c.place_of-place.result c.index_mut.result.now c.requires.counts stands.within c.index_mut.ensures.value c.args.pair.now stands other

pub returns-clause-total : goal.returns-clause-total
returns-clause-total c =
    let stands = stands_in c.args.pair.now c.place_of-place.result c.deref.ensures.value c.requires.counts c.place_of-place.ensures c.requires.there in
    let positive = was_positive c.args.counts.now.items c.place_of-place.result c.index_mut.result.now c.requires.counts stands.within c.index_mut.ensures.value in
    omega (arith, positive, set_total c.args.counts.now.items c.place_of-place.result c.index_mut.result.now c.requires.counts stands.within c.index_mut.ensures.value (c.index_mut.result.now.times - 1))
