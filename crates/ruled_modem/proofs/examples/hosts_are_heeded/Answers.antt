use Rattle.std.proofs.Common.{refl}
use Rattle.qmux_frame.specs.Writing.{head_text}
use Rattle.ruled_modem.proofs.examples.hosts_are_heeded.Goals as goal

pub returns : goal.returns
unfolding head_text
returns c = record { unopened = refl; opened = refl; unheard = refl; early = refl }
