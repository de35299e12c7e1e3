use Rattle.proxy_history.proofs.SoundLaws.{waiting_are_parties}
use Rattle.mbim_proxy.specs.History.{history}
use Rattle.mbim_proxy.proofs.Sound.{histories_are_sound}
use Rattle.mbim_proxy.proofs.Waiting.{waiting_are_present}
use Rattle.mbim_proxy.proofs.laws.parties_are_present.Goals as goal

pub returns : goal.returns
returns c = record {
  askers = λ s events. waiting_are_parties s.limits (history s events) (histories_are_sound s events);
  waiting = λ s events. waiting_are_present s (history s events);
}
