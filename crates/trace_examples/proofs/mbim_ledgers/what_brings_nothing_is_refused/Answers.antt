use Rattle.std.proofs.Common.{refl}
use Rattle.trace_examples.proofs.mbim_ledgers.what_brings_nothing_is_refused.Goals as goal

pub returns : goal.returns
returns c = record {
  refused = refl;
  names = refl;
  opens = refl;
}
