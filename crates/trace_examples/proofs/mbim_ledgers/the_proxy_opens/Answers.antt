use Rattle.std.proofs.Common.{refl}
use Rattle.trace_examples.proofs.mbim_ledgers.the_proxy_opens.Goals as goal

pub returns : goal.returns
returns c = record {
  rows = refl;
  counts = refl;
  no_expiry = refl;
  in_use = refl;
  opened = refl;
  uncounted = refl;
  late_too = refl;
  of_a_query = refl;
  error = refl;
}
