use Rattle.std.proofs.Common.{refl}
use Rattle.trace_examples.proofs.ledgers.the_time_goes_on.Goals as goal

pub returns : goal.returns
returns c = record {
  never_back = refl;
  on = refl;
  waits = refl;
  expired = refl;
  in_use = refl;
  once = refl;
  late = refl;
}
