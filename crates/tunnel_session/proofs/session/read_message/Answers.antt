use Rattle.std.proofs.Common.{ℕ, List, subst, sym}
use Rattle.framing.specs.Framing.{IsMessage}
use Rattle.qmux_frame.specs.Frame.{size_of}
use Rattle.device_core.specs.Session.{Reads}
use Rattle.tunnel_session.proofs.session.read_message.Goals as goal

pub read-requires : goal.read-requires
read-requires c = subst (IsMessage size_of) (sym c.as_slice.ensures) c.requires

pub returns : goal.returns
returns c = subst (λ (l : List ℕ). Reads c.args.body.now (record { place = c.args.message.now.place; bytes = l }) c.read.result) c.as_slice.ensures c.read.ensures
