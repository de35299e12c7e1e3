use Rattle.std.proofs.Common.{refl}
use Rattle.mbim_frame.proofs.examples.messages_are_written.Goals as goal

pub returns : goal.returns
returns c = record {
  open_1 = refl;
  close_is = refl;
  opened = refl;
  closed = refl;
  error = refl;
  done = refl;
}
