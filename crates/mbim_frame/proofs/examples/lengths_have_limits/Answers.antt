use Rattle.std.proofs.Common.{refl}
use Rattle.mbim_frame.proofs.examples.lengths_have_limits.Goals as goal

pub returns : goal.returns
returns c = record {
  few = refl;
  below = refl;
  shortest = refl;
  longest = refl;
  above = refl;
}
