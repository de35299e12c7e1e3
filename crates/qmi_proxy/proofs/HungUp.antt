-- An event adds its facts behind the one that begins it.
use Rattle.std.proofs.Common.{List, ◌∷◌, ap, ◌∙◌}
use Rattle.proxy_history.specs.Events.{Event}
use Rattle.proxy_history.specs.Connections.{dropped}
use Rattle.proxy_history.proofs.HungUp.{hung_up_since}
use Rattle.proxy_history.proofs.Folds.{events_add}
use Rattle.qmi_proxy.specs.Setup.{Setup}
use Rattle.qmi_proxy.specs.HungUp.{AddsAnEvent}
use Rattle.qmi_proxy.specs.History.{qmi_protocol, history}
use Rattle.qmi_proxy.proofs.Walk.{Asks, orderly}

pub events_hang_up_their_own : (s : Setup) (event : Event) (events : List Event) → AddsAnEvent (history s events) (history s (event ∷ events))
events_hang_up_their_own s event events =
    let g = events_add (qmi_protocol s) (Asks s) (orderly s) event events in
    record { since = g.since; whole = g.whole; none = g.none; hung_up = ap dropped g.whole ∙ hung_up_since g.since (history s events) g.none }
