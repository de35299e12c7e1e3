use Rattle.std.proofs.Common.{refl}
use Rattle.mbim_examples.proofs.lists.lists_of_thirty.Goals as goal

pub returns : goal.returns
returns c = record {
  thirty = refl;
  more = refl;
  twice = refl;
}
