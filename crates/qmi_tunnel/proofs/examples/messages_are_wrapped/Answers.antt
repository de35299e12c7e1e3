use Rattle.std.proofs.Common.{refl}
use Rattle.qmi_tunnel.proofs.examples.messages_are_wrapped.Goals as goal

pub returns : goal.returns
returns c = record { versions_are = refl }
