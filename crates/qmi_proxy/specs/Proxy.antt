-- A QMI proxy as whoever serves it sees it.
use Rattle.proxy_history.specs.Proxy.{Proxy, IsLawful}
use Rattle.proxy_history.specs.Lawful as proxy
use Rattle.qmi_proxy.specs.Setup.{Setup}
use Rattle.qmi_proxy.specs.History.{qmi_protocol}

-- what the definitions of a QMI proxy say of its events; it asks the modem nothing by itself
abbrev pub proxy_of : Setup → Proxy
proxy_of s = proxy.proxy_of (qmi_protocol s) (λ past. 0)

-- they keep the rules by which a proxy can be served
abbrev pub ProxiesAreLawful : Type 0
ProxiesAreLawful = (s : Setup) → IsLawful (proxy_of s)
