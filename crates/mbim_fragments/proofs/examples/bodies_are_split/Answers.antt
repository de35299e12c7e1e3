use Rattle.std.proofs.Common.{refl}
use Rattle.mbim_fragments.proofs.examples.bodies_are_split.Goals as goal

pub returns : goal.returns
returns c = record {
  none = refl;
  whole = refl;
  in_three = refl;
}
