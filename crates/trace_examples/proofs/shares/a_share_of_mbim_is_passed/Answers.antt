use Rattle.std.proofs.Common.{refl}
use Rattle.rig_runs.proofs.Computed.{computed}
use Rattle.rig_trace.specs.Rows.{ledger_of}
use Rattle.trace_examples.proofs.shares.a_share_of_mbim_is_passed.Goals as goal

pub returns : goal.returns
unfolding computed ledger_of
returns c = record {
  not_yet = refl;
  passes = refl;
  opening = refl;
  none_refused = refl;
  one_refused = refl;
  counts = refl;
}
