-- An MBIM proxy as whoever serves it sees it. A list of facts has the newest first.
use Rattle.std.specs.Prelude.{ℕ, List, length, if◌then◌else◌}
use Rattle.mbim_services.specs.SubscribeLists.{is_same_list}
use Rattle.proxy_history.specs.Facts.{Fact}
use Rattle.proxy_history.specs.Proxy.{Proxy, IsLawful}
use Rattle.proxy_history.specs.Lawful as proxy
use Rattle.mbim_proxy.specs.Setup.{Setup}
use Rattle.mbim_proxy.specs.Lists.{merged, last_list}
use Rattle.mbim_proxy.specs.Forwarding.{own_subscribe, wire_of}
use Rattle.mbim_proxy.specs.History.{mbim_protocol}

-- how many bytes more the proxy may ask the modem by itself while the modem only takes: those of its request to subscribe, unless the modem was last asked for the list of all open clients together
abbrev pub own_bytes : Setup → List Fact → ℕ
own_bytes s past = if is_same_list (merged s past) (last_list past) then 0 else length (wire_of s 0 (own_subscribe (merged s past)))

-- what the definitions of an MBIM proxy say of its events
abbrev pub proxy_of : Setup → Proxy
proxy_of s = proxy.proxy_of (mbim_protocol s) (own_bytes s)

-- they keep the rules by which a proxy can be served
abbrev pub ProxiesAreLawful : Type 0
ProxiesAreLawful = (s : Setup) → IsLawful (proxy_of s)
