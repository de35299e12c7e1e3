-- A proxy of several devices can be served.
use Rattle.std.specs.Prelude.{ℕ, List}
use Rattle.proxy_history.specs.Facts.{Fact}
use Rattle.proxy_history.specs.Adding.{IsOrderly}
use Rattle.proxy_history.specs.Orderly.{Anything}
use Rattle.proxy_history.specs.Lawful.{AsksUpTo}
use Rattle.many_history.specs.Devices.{Devices}
use Rattle.many_serving.specs.Lawful.{IsLawful}
use Rattle.many_serving.specs.Proxy.{many_proxy_of}

-- it keeps the rules where the protocol of each device is orderly, and there is an end to what it asks by itself
abbrev pub ManyProxiesAreLawful : Type 0 → Type 0
ManyProxiesAreLawful Known = (s : Devices Known) → ((d : ℕ) → IsOrderly (s.protocol d) Anything) → (own_bytes : ℕ → List Fact → ℕ) → ((d : ℕ) → AsksUpTo (s.protocol d) (own_bytes d)) → IsLawful (many_proxy_of s own_bytes)
