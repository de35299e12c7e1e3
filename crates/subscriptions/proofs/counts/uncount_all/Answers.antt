use Rattle.std.proofs.Common.{arith}
use Rattle.subscriptions.proofs.Counting.{times_left}
use Rattle.subscriptions.proofs.counts.uncount_all.Goals as goal

pub uncount-requires-clause-there : goal.uncount-requires-clause-there
uncount-requires-clause-there c =
    let left = times_left c.args.pairs.now c.loop-pair.pair-index c.pair-item.result c.loop-pair-test.true c.pair-item.is in
    omega (arith, left, c.requires.there c.pair-item.result, c.loop-pair.invariant.counted c.pair-item.result)
