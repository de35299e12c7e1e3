-- QMI owes nothing of what a core needs.
use Rattle.std.proofs.Common.{refl, false}
use Rattle.qmux_frame.specs.Frame.{size_of}
use Rattle.proxy_history.specs.History.{history}
use Rattle.proxy_history.proofs.Walk.{few_wait_for_modem, requests_are_asked}
use Rattle.qmi_proxy.specs.History.{qmi_protocol}
use Rattle.qmi_proxy.proofs.Walk.{Asks, orderly}
use Rattle.qmi_proxy.proofs.Lawful.{proxies_are_lawful}
use Rattle.qmi_state.specs.Transitions.{qmi_handlers}
use Rattle.qmi_state.proofs.Steps.{is_faithful}
use Rattle.qmi_state.proofs.Greatest.{keeps_greatest}
use Rattle.qmi_core.specs.Meaning.{qmi_meaning}
use Rattle.proxy_core.specs.Lawful.{KeepsLasting, IsLawful}

lasts : KeepsLasting qmi_meaning qmi_handlers
lasts = record {
  hear_client = λ c m client outbox side. refl;
  give_up = λ c side. refl;
  hear_modem = λ m x. refl;
  lose = λ x. refl;
  regain = λ side. refl;
  take_modem = λ count side. refl;
  tick = λ time x. refl;
  finish = λ x. refl;
}

pub is_lawful : IsLawful qmi_meaning (record { opened = false }) size_of
is_lawful = record {
  begins = λ l. refl;
  lasts = λ l. lasts;
  greatest = λ l. keeps_greatest;
  framing = λ s. refl;
  waits_for_modem = λ l s messages past. refl;
  few_wait = λ s events. few_wait_for_modem (qmi_protocol s) (Asks s) (history (qmi_protocol s) events) (requests_are_asked (qmi_protocol s) (Asks s) (orderly s) events);
  lawful = proxies_are_lawful;
  opens = λ limits path. tt;
  limits = λ s l serves. record { connections = refl; outbox = refl; modem_outbox = refl };
  faithful = λ s l serves. is_faithful s;
  own_bytes = λ s past core serves Sd. refl;
}
