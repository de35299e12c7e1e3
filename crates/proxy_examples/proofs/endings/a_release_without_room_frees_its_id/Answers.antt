use Rattle.proxy_examples.proofs.NoRoom.{release_ends, released_is_free}
use Rattle.proxy_examples.proofs.endings.a_release_without_room_frees_its_id.Goals as goal

pub returns : goal.returns
returns c = record {
  facts = release_ends;
  free = released_is_free;
}
