-- The definitions of a QMI proxy keep the rules by which it can be served.
use Rattle.std.proofs.Common.{refl, arith}
use Rattle.proxy_history.specs.Proxy.{IsLawful}
use Rattle.proxy_history.proofs.Lawful.{proxy_is_lawful}
use Rattle.qmi_proxy.specs.Setup.{Setup}
use Rattle.qmi_proxy.specs.History.{qmi_protocol}
use Rattle.qmi_proxy.specs.Proxy.{proxy_of}
use Rattle.qmi_proxy.proofs.Walk.{Asks, orderly}

pub proxies_are_lawful : (s : Setup) → IsLawful (proxy_of s)
proxies_are_lawful s = proxy_is_lawful (qmi_protocol s) (Asks s) (orderly s) (λ past. 0) (record {
  begun = λ past. refl;
  taken = λ count past. refl;
  asked = λ past sound. omega arith;
})
