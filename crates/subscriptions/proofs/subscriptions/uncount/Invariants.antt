use Rattle.subscriptions.proofs.Recounting.{UncountedSoFar}
use Rattle.subscriptions.proofs.subscriptions.uncount.Given as goal

abbrev pub invariant-loop-client : goal.invariant-loop-client
invariant-loop-client l = UncountedSoFar l.fn.conn l.clients l.initial.counts l.client-index l.counts
