use Rattle.std.proofs.Common.{refl}
use Rattle.framing.specs.Cutting.{cut_from}
use Rattle.qmi_tunnel.proofs.examples.buffers_are_unwrapped.Goals as goal

pub returns : goal.returns
unfolding cut_from
returns c = record { one = refl; more = refl; two = refl; none = refl; part = refl; other = refl; unframed = refl }
