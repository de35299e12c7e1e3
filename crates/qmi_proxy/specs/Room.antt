-- What holds of the room for each client's bytes, whatever a QMI proxy meets. Lists of events have the newest first.
use Rattle.std.specs.Prelude.{◌≡◌, ◌≤◌, ℕ, true, false, List, length}
use Rattle.proxy_history.specs.Events.{Event}
use Rattle.proxy_history.specs.Connections.{is_present}
use Rattle.qmi_proxy.specs.Setup.{Setup}
use Rattle.qmi_proxy.specs.Limits.{outbox_limit}
use Rattle.qmi_proxy.specs.History.{history, text_for}

-- a connection that is there got all that was due to it: there was room for each entry's bytes
abbrev pub NobodyThereIsOver : Type 0
NobodyThereIsOver = (s : Setup) (events : List Event) (c : ℕ) → is_present c (history s events) ≡ true → (text_for s c events).is_over ≡ false

-- no more bytes wait for a client than may
abbrev pub NoMoreWaitThanMay : Type 0
NoMoreWaitThanMay = (s : Setup) (events : List Event) (c : ℕ) → length (text_for s c events).waiting ≤ outbox_limit
