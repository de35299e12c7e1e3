use Rattle.std.proofs.Common.{◌+◌, sym, ◌∙◌, subst}
use Rattle.std.proofs.lemmas.List.{take_all}
use Rattle.subscriptions.proofs.Recounting.{UncountedSoFar, uncounted_here, uncounted_other, uncounted_there, uncounted_all}
use Rattle.subscriptions.proofs.subscriptions.uncount.Goals as goal
use Rattle.subscriptions.proofs.subscriptions.uncount.Goals.{then-is_of, else-is_of}

pub uncount-requires : goal.uncount-requires
uncount-requires c =
    uncounted_there c.args.conn c.args.clients.now c.args.counts.now c.loop-client.counts c.loop-client.client-index c.client-item.result c.loop-client-test.true c.client-item.is c.loop-client.invariant c.requires
    (sym c.is_of.ensures ∙ c.if-is_of.true)

pub loop-client-preserved : goal.loop-client-preserved
loop-client-preserved c =
    elim c.if-is_of.branch [
      | then-is_of w ↦
          subst (UncountedSoFar c.args.conn c.args.clients.now c.args.counts.now (c.loop-client.client-index + 1)) (sym w.counts-is)
          (uncounted_here c.args.conn c.args.clients.now c.args.counts.now c.loop-client.counts c.loop-client.client-index c.client-item.result c.loop-client-test.true c.client-item.is c.loop-client.invariant w.uncount.new.counts
          (sym c.is_of.ensures ∙ w.if-is_of.true) w.uncount.ensures.counted w.uncount.ensures.total)
      | else-is_of w ↦
          subst (UncountedSoFar c.args.conn c.args.clients.now c.args.counts.now (c.loop-client.client-index + 1)) (sym w.counts-is)
          (uncounted_other c.args.conn c.args.clients.now c.args.counts.now c.loop-client.counts c.loop-client.client-index c.client-item.result c.loop-client-test.true c.client-item.is c.loop-client.invariant
          (sym c.is_of.ensures ∙ w.if-is_of.false))
    ]

pub returns : goal.returns
returns c =
    uncounted_all c.args.conn c.args.clients.now c.args.counts.now c.loop-client.counts c.loop-client.client-index c.requires c.loop-client.invariant (take_all c.loop-client.client-index c.args.clients.now c.loop-client-test.false)
