use Rattle.proxy_history.proofs.Walk.{few_wait_for_modem}
use Rattle.qmi_proxy.specs.History.{qmi_protocol, history}
use Rattle.qmi_proxy.proofs.Sound.{requests_are_asked}
use Rattle.qmi_proxy.proofs.Walk.{Asks}
use Rattle.qmi_proxy.proofs.laws.requests_are_asked.Goals as goal

pub returns : goal.returns
returns c = record {
  asked = requests_are_asked;
  within = λ s events. few_wait_for_modem (qmi_protocol s) (Asks s) (history s events) (requests_are_asked s events);
}
