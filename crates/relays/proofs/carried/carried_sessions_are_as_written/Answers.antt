use Rattle.relays.proofs.TunnelComputed.{sessions}
use Rattle.relays.proofs.carried.carried_sessions_are_as_written.Goals as goal

pub returns : goal.returns
returns c = sessions
