-- Which requests a QMI proxy refuses at the clock and at a loss. Lists of events have the newest first.
use Rattle.std.specs.Prelude.{◌↔◌, List, Contains}
use Rattle.proxy_history.specs.Events.{Event}
use Rattle.proxy_history.specs.Facts.{Request}
use Rattle.proxy_history.specs.Requests.{pending}
use Rattle.qmi_proxy.specs.Setup.{Setup}
use Rattle.qmi_proxy.specs.FromModem.{in_expiry_order}
use Rattle.qmi_proxy.specs.History.{history}

-- the order of refusals, which goes by number spaces, has each request that waits and no other
abbrev pub TheOrderLosesNone : Type 0
TheOrderLosesNone = (s : Setup) (events : List Event) (r : Request) → Contains (in_expiry_order (pending (history s events))) r ↔ Contains (pending (history s events)) r
