-- What each request of a QMI proxy is when it is forwarded. A list of facts has the newest first.
use Rattle.std.specs.Prelude.{◌≡◌, ◌⊎◌, ℕ, true, List}
use Rattle.proxy_history.specs.Events.{Event}
use Rattle.proxy_history.specs.Facts.{Fact, Request}
use Rattle.proxy_history.specs.Connections.{is_present}
use Rattle.proxy_history.specs.Modem.{now}
use Rattle.proxy_history.specs.View.{said_at, said_count}
use Rattle.proxy_history.specs.Adding.{AreAsked}
use Rattle.qmi_proxy.specs.Setup.{Setup}
use Rattle.qmi_proxy.specs.Spaces.{space_of}
use Rattle.qmi_proxy.specs.Text.{view_of}
use Rattle.qmi_proxy.specs.Clients.{deadline_of}
use Rattle.qmi_proxy.specs.Releases.{release_of}
use Rattle.qmi_proxy.specs.History.{qmi_protocol, history}

-- the newest message of a client that is there
pub record IsNewestMessage (s : Setup) (r : Request) (past : List Fact) : Type 0 where
  pub sender : is_present r.conn past ≡ true
  pub place : r.place ≡ said_count (view_of r.conn past)
  pub message : said_at r.place (view_of r.conn past) ≡ r.message
  pub space : r.space ≡ space_of r.message
  pub deadline : r.deadline ≡ deadline_of (now past) s.time_limit

-- the proxy's own request to release a client id
pub record IsOwnRelease (s : Setup) (r : Request) (past : List Fact) : Type 0 where
  pub sender : r.conn ≡ 0
  pub service : ℕ
  pub cid : ℕ
  pub message : r.message ≡ release_of service cid
  pub space : r.space ≡ space_of r.message
  pub deadline : r.deadline ≡ deadline_of (now past) s.time_limit

abbrev pub IsAskedSo : Setup → Request → List Fact → Type 0
IsAskedSo s r past = IsNewestMessage s r past ⊎ IsOwnRelease s r past

-- so was each request, and its bytes found room in the modem's outbox
abbrev pub RequestsAreAsked : Type 0
RequestsAreAsked = (s : Setup) (events : List Event) → AreAsked (qmi_protocol s) (IsAskedSo s) (history s events)
