use Rattle.std.proofs.Common.{refl}
use Rattle.rig_runs.proofs.Computed.{computed}
use Rattle.rig_trace.specs.Rows.{ledger_of}
use Rattle.rig_trace.specs.Trace.{trace_of}
use Rattle.trace_examples.proofs.traces.two_clients_of_qmi.Goals as goal

pub returns : goal.returns
unfolding computed ledger_of trace_of
returns c = record {
  told = refl;
  first = refl;
  second = refl;
  counts = refl;
  rows = refl;
}
