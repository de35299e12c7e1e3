use Rattle.trace_laws_mbim.proofs.Law.{rows_are_in_use, requests_are_counted}
use Rattle.trace_laws_mbim.proofs.laws.requests_are_counted.Goals as goal

pub returns : goal.returns
returns c = record {
  rows = rows_are_in_use;
  counts = requests_are_counted;
}
