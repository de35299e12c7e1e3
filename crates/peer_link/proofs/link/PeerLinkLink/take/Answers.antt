use Rattle.peer_link.proofs.Leading.{no_end}
use Rattle.peer_link.proofs.link.PeerLinkLink.take.Goals as goal

pub returns-in-Ok-clause-ended : goal.returns-in-Ok-clause-ended
returns-in-Ok-clause-ended g c = no_end c.in-Ok.taken c.in-Ok.ensures.no_end
