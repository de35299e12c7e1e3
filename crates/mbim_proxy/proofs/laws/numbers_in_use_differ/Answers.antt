use Rattle.proxy_history.proofs.SoundLaws.{in_use_differ}
use Rattle.mbim_proxy.specs.History.{history}
use Rattle.mbim_proxy.proofs.Sound.{histories_are_sound}
use Rattle.mbim_proxy.proofs.laws.numbers_in_use_differ.Goals as goal

pub returns : goal.returns
returns c = λ s events within. in_use_differ s.limits within (history s events) (histories_are_sound s events)
