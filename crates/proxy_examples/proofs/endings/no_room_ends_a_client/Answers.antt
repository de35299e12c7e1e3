use Rattle.proxy_examples.proofs.NoRoom.{indication_ends, answer_ends, expiry_ends}
use Rattle.proxy_examples.proofs.endings.no_room_ends_a_client.Goals as goal

pub returns : goal.returns
returns c = record {
  indication = indication_ends;
  answer = answer_ends;
  expiry = expiry_ends;
}
