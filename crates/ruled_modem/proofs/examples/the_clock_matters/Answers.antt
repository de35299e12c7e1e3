use Rattle.std.proofs.Common.{refl}
use Rattle.qmux_frame.specs.Writing.{head_text}
use Rattle.ruled_modem.proofs.examples.the_clock_matters.Goals as goal

pub returns : goal.returns
unfolding head_text
returns c = record { first = refl; second = refl; third = refl; answered = refl; reaches = refl; none = refl; tick = refl; again = refl }
