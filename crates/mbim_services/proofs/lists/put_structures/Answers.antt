use Rattle.std.proofs.Common.{arith}
use Rattle.mbim_services.proofs.Runs.{is-run, structures-put}
use Rattle.mbim_services.proofs.lists.put_structures.Goals as goal

pub loop-left-preserved : goal.loop-left-preserved
loop-left-preserved c = (
  structures-put c.args.at c.loop-left.end c.put_structure-end.result c.run_length.result c.loop-left.left.now c.split_at.result.0.now c.split_at.result.1.now _ c.args.into.now c.loop-left.into c.put_structure-end.new.into (is-run c.loop-left.left.now c.run_length.result c.run_length.ensures.some c.run_length.ensures.run)
      c.split_at.ensures.front c.split_at.ensures.back c.loop-left.invariant.0 c.put_structure-end.ensures.put c.put_structure-end.ensures.end,
  omega (arith, c.loop-left.invariant.1, c.put_structure-end.ensures.short, c.split_at.ensures.front_len, c.split_at.ensures.back_len, c.run_length.ensures.within),
  omega (arith, c.loop-left.invariant.2, c.split_at.ensures.back_len),
)
