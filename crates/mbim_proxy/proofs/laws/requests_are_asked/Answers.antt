use Rattle.proxy_history.proofs.Walk.{few_wait_for_modem}
use Rattle.mbim_proxy.specs.History.{mbim_protocol, history}
use Rattle.mbim_proxy.proofs.Sound.{requests_are_asked}
use Rattle.mbim_proxy.proofs.Walk.{Asks}
use Rattle.mbim_proxy.proofs.laws.requests_are_asked.Goals as goal

pub returns : goal.returns
returns c = record {
  asked = requests_are_asked;
  within = λ s events. few_wait_for_modem (mbim_protocol s) (Asks s) (history s events) (requests_are_asked s events);
}
