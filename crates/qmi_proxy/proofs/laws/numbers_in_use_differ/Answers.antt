use Rattle.proxy_history.proofs.SoundLaws.{in_use_differ}
use Rattle.qmi_proxy.specs.Limits.{qmi_limits}
use Rattle.qmi_proxy.specs.History.{history}
use Rattle.qmi_proxy.proofs.Apart.{within}
use Rattle.qmi_proxy.proofs.Sound.{histories_are_sound}
use Rattle.qmi_proxy.proofs.laws.numbers_in_use_differ.Goals as goal

pub returns : goal.returns
returns c = λ s events. in_use_differ qmi_limits within (history s events) (histories_are_sound s events)
