use Rattle.std.proofs.Common.{map}
use Rattle.std.proofs.lemmas.List.{map_push}
use Rattle.mbim_fields.specs.View.{fixed_view, value_view}
use Rattle.mbim_fields.proofs.Readings.{RunSoFar-next}
use Rattle.mbim_fields.proofs.decoding.run_at.Goals as goal

pub loop-preserved : goal.loop-preserved
loop-preserved c =
    rw (c.in_ok-push.ensures, map_push, c.size.ensures)
    (RunSoFar-next (fixed_view c.args.fixed) c.args.count c.args.whole.now c.args.at (map value_view c.loop.values.items) c.loop.place c.loop.counter (value_view c.in_ok-fixed_at.field-0)
    c.loop.invariant c.loop-test.true c.in_ok-fixed_at.ensures)
