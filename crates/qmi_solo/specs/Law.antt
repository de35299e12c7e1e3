-- What a client gets beside others, it gets alone. Lists of events and views have the newest first.
use Rattle.std.specs.Prelude.{◌≡◌, ◌≢◌, ℕ, true, ◌==◌, List, All}
use Rattle.proxy_history.specs.Events.{Event}
use Rattle.proxy_history.specs.Facts.{Fact}
use Rattle.proxy_history.specs.Connections.{is_present}
use Rattle.proxy_history.specs.Requests.{in_use}
use Rattle.proxy_history.specs.ClientIds.{held}
use Rattle.proxy_history.specs.Coming as coming
use Rattle.proxy_solo.specs.Law as alone
use Rattle.qmi_proxy.specs.Setup.{Setup}
use Rattle.qmi_proxy.specs.Text.{view_of}
use Rattle.qmi_proxy.specs.History.{qmi_protocol, history}
use Rattle.qmi_solo.specs.Solo.{qmi_alone, solo}

-- ---- the events that may come ----

-- an event may follow these events: names rise, pieces are short, and no more is taken than waits
abbrev pub MayCome : Setup → Event → List Event → Type 0
MayCome s event events = coming.MayCome (qmi_protocol s) event events

abbrev pub AreSound : Setup → List Event → Type 0
AreSound s events = coming.AreSound (qmi_protocol s) events

-- ---- what a client gets that was let alone; the proxy itself, whose requests have sender 0, is no client ----

-- these events may come, and nothing that the client met tells of others
abbrev pub IsLetAlone : Setup → ℕ → List Event → Type 0
IsLetAlone s c events = alone.IsLetAlone (qmi_protocol s) c events

-- its bytes are those that it gets alone
abbrev pub GetsTheSameAlone : Type 0
GetsTheSameAlone = (s : Setup) (c : ℕ) (events : List Event) → c ≢ 0 → IsLetAlone s c events → alone.GetsTheSame (qmi_protocol s) (qmi_alone s) c events

-- what it meets alone may come: a proxy can be run on it
abbrev pub AloneIsSound : Type 0
AloneIsSound = (s : Setup) (c : ℕ) (events : List Event) → c ≢ 0 → IsLetAlone s c events → alone.MayComeAlone (qmi_protocol s) (qmi_alone s) c events

-- ---- the two histories ----

-- the history of all, and that of the client alone
pub record IsSameAlone (s : Setup) (c : ℕ) (past own : List Fact) : Type 0 where
  pub same : alone.IsSame (qmi_protocol s) (qmi_alone s) c past own
  pub entries : view_of c past ≡ view_of c own
  -- while it is there nobody else asks or holds anything alone; once it has gone the proxy itself may release its client ids
  pub asks : is_present c own ≡ true → All (λ r. (r.conn == c) ≡ true) (in_use own)
  pub holds : is_present c own ≡ true → All (λ g. (g.conn == c) ≡ true) (held own)

abbrev pub HistoriesAreSame : Type 0
HistoriesAreSame = (s : Setup) (c : ℕ) (events : List Event) → c ≢ 0 → IsLetAlone s c events → IsSameAlone s c (history s events) (history s (solo s c events))
