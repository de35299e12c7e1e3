use Rattle.link_session.proofs.Answering.{peers_can_be_asked}
use Rattle.link_session.proofs.laws.peers_can_be_asked.Goals as goal

pub returns : goal.returns
returns c = peers_can_be_asked
