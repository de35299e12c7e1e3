-- What a session over a link to a peer comes to.
use Rattle.std.specs.Prelude.{◌≡◌, List, [], Some}
use Rattle.link_io.specs.Calls.{Call}
use Rattle.link_session.specs.Marks.{bytes_in}
use Rattle.link_session.specs.Peer.{Finish, LeadsTo, Peer, said, texts_in}
use Rattle.peer_link.specs.Linked.{Linked}
use Rattle.printed_ends.specs.declared.held.Held.{Held}
use Rattle.printed_ends.specs.declared.printed.Printed.{Printed}

-- it prints what the session at the peer does, and sent the same texts
pub record IsHeld {W : Type 0} (Prints : W → Printed → Type 0) (run : Finish W) (held : Held) : Type 0 where
  pub prints : Prints run.end held.printed
  pub texts_are : held.texts.items ≡ run.talk.texts

-- all calls of the link are told, these texts were sent by them, and behind silence nothing waits
pub record IsTold {A : Type 0} (peer : A → Peer) (link : Linked A) (held : Held) : Type 0 where
  pub calls : List Call
  pub told : link.recorded ≡ Some calls
  pub leads : LeadsTo (peer link.answerer) [] [] calls
  pub silent : held.printed.status ≡ 5 → said (peer link.answerer) [] (texts_in calls) ≡ bytes_in calls
  pub texts_are : held.texts.items ≡ texts_in calls
