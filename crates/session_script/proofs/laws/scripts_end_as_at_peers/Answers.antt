use Rattle.session_script.proofs.Peers.{scripts_end_as_at_peers}
use Rattle.session_script.proofs.laws.scripts_end_as_at_peers.Goals as goal

pub returns : goal.returns
returns g c = scripts_end_as_at_peers
