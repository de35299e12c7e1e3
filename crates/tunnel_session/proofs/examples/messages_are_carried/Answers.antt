use Rattle.std.proofs.Common.{refl}
use Rattle.tunnel_session.specs.Requests.{carried_message}
use Rattle.tunnel_session.proofs.examples.messages_are_carried.Goals as goal

pub returns : goal.returns
unfolding carried_message
returns c = record { versions = refl }
