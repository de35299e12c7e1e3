use Rattle.std.proofs.Common.{arith}
use Rattle.mbim_services.proofs.Runs.{is-run, references-put}
use Rattle.mbim_services.proofs.lists.put_references.Goals as goal

pub loop-left-preserved : goal.loop-left-preserved
loop-left-preserved c = (
  references-put c.args.at c.loop-left.place c.loop-left.end c.put_number-end.result c.put_number-end-in-loop-left.result c.run_length.result c.structure_length-size.result c.loop-left.left.now c.split_at.result.0.now c.split_at.result.1.now _ c.args.into.now c.loop-left.into
      c.put_number-end.new.into c.put_number-end-in-loop-left.new.into (is-run c.loop-left.left.now c.run_length.result c.run_length.ensures.some c.run_length.ensures.run) c.split_at.ensures.front c.split_at.ensures.back c.structure_length-size.ensures.length c.loop-left.invariant.0 c.put_number-end.ensures.put
      c.put_number-end.ensures.end c.put_number-end-in-loop-left.ensures.put c.put_number-end-in-loop-left.ensures.end,
  omega (arith, c.loop-left.invariant.1, c.put_number-end.ensures.end, c.put_number-end-in-loop-left.ensures.end, c.split_at.ensures.back_len, c.run_length.ensures.some, c.run_length.ensures.within),
  omega (arith, c.loop-left.invariant.2, c.structure_length-size.ensures.short, c.split_at.ensures.front_len, c.split_at.ensures.back_len, c.run_length.ensures.within),
  omega (arith, c.loop-left.invariant.3, c.split_at.ensures.back_len),
)
