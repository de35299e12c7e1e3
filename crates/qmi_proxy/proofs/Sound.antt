-- Each fact of a QMI proxy's history may follow those before it.
use Rattle.std.proofs.Common.{List, ◌∷◌}
use Rattle.proxy_history.specs.Events.{Event}
use Rattle.proxy_history.specs.Items.{Item}
use Rattle.proxy_history.specs.Facts.{Fact, EventBegan}
use Rattle.proxy_history.specs.Sound.{IsSound}
use Rattle.proxy_history.specs.Adding.{MayAdd, AreAsked}
use Rattle.proxy_history.proofs.Walk as walk
use Rattle.qmi_proxy.specs.Setup.{Setup}
use Rattle.qmi_proxy.specs.Limits.{qmi_limits}
use Rattle.qmi_proxy.specs.History.{qmi_protocol, add, add_all, history}
use Rattle.qmi_proxy.proofs.Walk.{Asks, orderly}

module _ (s : Setup) where
  pub sound_add : (item : Item) (past : List Fact) → IsSound qmi_limits past → IsSound qmi_limits (add s item past)
  sound_add item past sound = walk.stays_sound (qmi_protocol s) (Asks s) (orderly s) (MayAdd item) past (add s item past) (walk.item_adds (qmi_protocol s) (Asks s) (orderly s) item past sound) sound

  pub sound_items : (items : List Item) (past : List Fact) → IsSound qmi_limits past → IsSound qmi_limits (add_all s items past)
  sound_items items past sound = walk.sound_items (qmi_protocol s) (Asks s) (orderly s) items past sound

  pub histories_are_sound : (events : List Event) → IsSound qmi_limits (history s events)
  histories_are_sound events = walk.histories_are_sound (qmi_protocol s) (Asks s) (orderly s) events

  pub requests_are_asked : (events : List Event) → AreAsked (qmi_protocol s) (Asks s) (history s events)
  requests_are_asked events = walk.requests_are_asked (qmi_protocol s) (Asks s) (orderly s) events

  -- behind the history, too
  pub begun_is_sound : (events : List Event) → IsSound qmi_limits (EventBegan ∷ history s events)
  begun_is_sound events = (tt, histories_are_sound events)

  pub items_are_asked : (items : List Item) (events : List Event) → AreAsked (qmi_protocol s) (Asks s) (add_all s items (EventBegan ∷ history s events))
  items_are_asked items events = walk.asked_items (qmi_protocol s) (Asks s) (orderly s) items (EventBegan ∷ history s events) (begun_is_sound events) (tt, requests_are_asked events)
