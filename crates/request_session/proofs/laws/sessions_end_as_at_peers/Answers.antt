use Rattle.request_session.proofs.Peers.{sessions_end_as_at_peers}
use Rattle.request_session.proofs.laws.sessions_end_as_at_peers.Goals as goal

pub returns : goal.returns
returns c = sessions_end_as_at_peers
