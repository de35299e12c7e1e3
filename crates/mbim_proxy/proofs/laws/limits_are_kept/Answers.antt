use Rattle.proxy_history.proofs.Few.{few_are_present, few_are_in_use}
use Rattle.mbim_proxy.specs.History.{history}
use Rattle.mbim_proxy.proofs.Sound.{histories_are_sound}
use Rattle.mbim_proxy.proofs.laws.limits_are_kept.Goals as goal

pub returns : goal.returns
returns c = record {
  present = λ s events. few_are_present s.limits (history s events) (histories_are_sound s events);
  in_use = λ s events space. few_are_in_use s.limits (history s events) space (histories_are_sound s events);
}
