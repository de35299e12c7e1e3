use Rattle.mbim_proxy.proofs.Sound.{histories_are_sound}
use Rattle.mbim_proxy.proofs.laws.histories_are_sound.Goals as goal

pub returns : goal.returns
returns c = histories_are_sound
