use Rattle.std.proofs.Common.{refl}
use Rattle.trace_examples.proofs.ledgers.an_answer_finds_its_request.Goals as goal

pub returns : goal.returns
returns c = record {
  found = refl;
  counted = refl;
  service = refl;
  id = refl;
  number = refl;
  first_stays = refl;
  other_stays = refl;
}
