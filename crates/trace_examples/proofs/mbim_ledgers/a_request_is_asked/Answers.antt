use Rattle.std.proofs.Common.{refl}
use Rattle.trace_examples.proofs.mbim_ledgers.a_request_is_asked.Goals as goal

pub returns : goal.returns
returns c = record {
  rows = refl;
  counts = refl;
  answered = refl;
  expired = refl;
}
