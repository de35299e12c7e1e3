use Rattle.link_session.proofs.Peers.{links_decide_nothing}
use Rattle.link_session.proofs.laws.links_decide_nothing.Goals as goal

pub returns : goal.returns
returns c = links_decide_nothing
