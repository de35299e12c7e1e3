-- What an event adds to the history, and whose connections are to be hung up for it. Lists of events and of facts have the newest first.
use Rattle.std.specs.Prelude.{◌≡◌, false, List, ◌∷◌, ◌++◌, reverse, filter_map, All}
use Rattle.proxy_history.specs.Events.{Event}
use Rattle.proxy_history.specs.Facts.{Fact, EventBegan}
use Rattle.proxy_history.specs.Connections.{dropped}
use Rattle.proxy_history.specs.HungUp.{hung_up_by, is_beginning}
use Rattle.qmi_proxy.specs.Setup.{Setup}
use Rattle.qmi_proxy.specs.History.{history}

-- the facts of one event, behind the fact that begins it; the names to hang up are those that these facts end, but for those that went by themselves
pub record AddsAnEvent (before after : List Fact) : Type 0 where
  pub since : List Fact
  pub whole : after ≡ since ++ EventBegan ∷ before
  pub none : All (λ fact. is_beginning fact ≡ false) since
  pub hung_up : dropped after ≡ filter_map hung_up_by (reverse since)

abbrev pub EventsHangUpTheirOwn : Type 0
EventsHangUpTheirOwn = (s : Setup) (event : Event) (events : List Event) → AddsAnEvent (history s events) (history s (event ∷ events))
