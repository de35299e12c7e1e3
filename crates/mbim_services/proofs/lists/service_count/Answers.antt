use Rattle.std.proofs.Common.{length, arith}
use Rattle.std.proofs.lemmas.Slice.{between_to_end}
use Rattle.mbim_services.proofs.Runs.{counted-on}
use Rattle.mbim_services.proofs.lists.service_count.Goals as goal

pub loop-left-preserved : goal.loop-left-preserved
loop-left-preserved c =
    counted-on c.loop-left.left.now _ c.run_length.result c.loop-left.count _ _ c.run_length.ensures.some c.run_length.ensures.within c.run_length.ensures.run
    (between_to_end c.loop-left.left.now c.run_length.result (length c.loop-left.left.now) (omega arith)) c.loop-left.invariant
