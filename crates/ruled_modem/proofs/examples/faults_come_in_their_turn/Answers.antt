use Rattle.std.proofs.Common.{refl}
use Rattle.qmux_frame.specs.Writing.{head_text}
use Rattle.ruled_modem.proofs.examples.faults_come_in_their_turn.Goals as goal

pub returns : goal.returns
unfolding head_text
returns c = record { first = refl; second = refl; third = refl; fourth = refl; reaches = refl; response = refl }
