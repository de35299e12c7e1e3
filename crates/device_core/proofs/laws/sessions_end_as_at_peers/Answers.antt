use Rattle.device_core.proofs.Peers.{sessions_end_as_at_peers}
use Rattle.device_core.proofs.laws.sessions_end_as_at_peers.Goals as goal

pub returns : goal.returns
returns c = sessions_end_as_at_peers
