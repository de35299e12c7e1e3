use Rattle.qmi_proxy.proofs.Sound.{histories_are_sound}
use Rattle.qmi_proxy.proofs.laws.histories_are_sound.Goals as goal

pub returns : goal.returns
returns c = histories_are_sound
