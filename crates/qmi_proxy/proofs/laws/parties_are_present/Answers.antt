use Rattle.proxy_history.proofs.SoundLaws.{waiting_are_parties, holders_are_parties}
use Rattle.qmi_proxy.specs.Limits.{qmi_limits}
use Rattle.qmi_proxy.specs.History.{history}
use Rattle.qmi_proxy.proofs.Sound.{histories_are_sound}
use Rattle.qmi_proxy.proofs.laws.parties_are_present.Goals as goal

pub returns : goal.returns
returns c = record {
  waiting = λ s events. waiting_are_parties qmi_limits (history s events) (histories_are_sound s events);
  holders = λ s events. holders_are_parties qmi_limits (history s events) (histories_are_sound s events);
}
