use Rattle.std.proofs.Common.{arith}
use Rattle.sim_mbim.proofs.Loops.{kept-step}
use Rattle.sim_mbim.proofs.places.all_values.Goals as goal

pub loop-place-preserved : goal.loop-place-preserved
loop-place-preserved g c = (
  omega (arith, c.loop-place.invariant.0),
  kept-step g.T.Kept.value _ _ c.args.places.now c.loop-place.index c.loop-place.place-index c.place-item.result c.loop-place.invariant.1 c.loop-place-test.true c.loop-place.invariant.0 c.place-item.is c.in_ok-add_value.ensures,
)
