use Rattle.std.proofs.Common.{refl}
use Rattle.trace_examples.proofs.ledgers.a_request_is_asked.Goals as goal

pub returns : goal.returns
returns c = record {
  rows = refl;
  counts = refl;
  count = refl;
  said = refl;
  said_nothing = refl;
  both = refl;
}
