use Rattle.std.proofs.Common.{refl}
use Rattle.mbim_frame.proofs.examples.query_is_read.Goals as goal

pub returns : goal.returns
returns c = record {
  head = refl;
  place = refl;
  command = refl;
  buffer = refl;
}
