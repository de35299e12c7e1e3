-- What a history has where those who join are new, and the modem takes no more than waits for it. A list of facts has the newest first.
use Rattle.std.specs.Prelude.{◌≡◌, ◌⊎◌, ◌-◌, ◌^◌, ◌≤◌, true, false, List, length}
use Rattle.std.specs.List.{AllByRecursion}
use Rattle.proxy_history.specs.Events.{Event}
use Rattle.proxy_history.specs.Facts.{Fact, Request}
use Rattle.proxy_history.specs.Connections.{present, dropped, contains}
use Rattle.proxy_history.specs.Requests.{in_use, pending}
use Rattle.proxy_history.specs.Modem.{to_modem, modem_taken_count}
use Rattle.proxy_history.specs.Sound.{IsSound}
use Rattle.proxy_history.specs.View.{said_at, said_count}
use Rattle.proxy_history.specs.Coming.{AreSound}
use Rattle.qmi_proxy.specs.Setup.{Setup}
use Rattle.qmi_proxy.specs.Spaces.{space_of}
use Rattle.qmi_proxy.specs.Limits.{qmi_limits}
use Rattle.qmi_proxy.specs.Text.{view_of}
use Rattle.qmi_proxy.specs.Clients.{wire}
use Rattle.qmi_proxy.specs.History.{qmi_protocol, history}

-- a request is in the space of its message, and its deadline is a 64-bit number
abbrev pub IsPlaced : Request → Type 0
IsPlaced r = (r.space ≡ space_of r.message) × (r.deadline ≤ 2 ^ 64 - 1)

-- the sender of a request is there, and its message is the sender's of that place
abbrev pub IsSent : List Fact → Request → Type 0
IsSent past r = (contains r.conn (present past) ≡ true) × (r.place ≤ said_count (view_of r.conn past)) × (said_at r.place (view_of r.conn past) ≡ r.message)

-- so is each request but the proxy's own
abbrev pub IsAsked : List Fact → Request → Type 0
IsAsked past r = IsSent past r ⊎ (r.conn ≡ 0)

pub record Regular (past : List Fact) : Type 0 where
  pub sound : IsSound qmi_limits past
  pub placed : AllByRecursion IsPlaced (in_use past)
  pub asked : AllByRecursion (IsAsked past) (pending past)
  pub was_taken : modem_taken_count past ≤ length (to_modem wire past)
  -- no connection has the name of the proxy itself
  pub nobody : contains 0 (present past) ≡ false
  pub never : contains 0 (dropped past) ≡ false

-- so is each history of events that may come
abbrev pub HistoriesAreRegular : Type 0
HistoriesAreRegular = (s : Setup) (events : List Event) → AreSound (qmi_protocol s) events → Regular (history s events)
