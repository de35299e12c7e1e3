use Rattle.proxy_history.proofs.Given.{numbers_are_free_when_given}
use Rattle.mbim_proxy.proofs.Sound.{histories_are_sound}
use Rattle.mbim_proxy.specs.History.{history}
use Rattle.mbim_isolation.proofs.Refusals.{time_frees_no_number}
use Rattle.mbim_isolation.proofs.laws.numbers_are_free_when_given.Goals as goal

pub returns : goal.returns
returns c = record {
  free = λ s events later past r within whole. numbers_are_free_when_given s.limits within (history s events) later past r (histories_are_sound s events) whole;
  kept = λ s time past. time_frees_no_number s past time;
}
