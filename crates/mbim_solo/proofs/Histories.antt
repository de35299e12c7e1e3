-- Each history of the MBIM proxy is fit: its numbers differ, a client's commands have rising places, and each request to open that an open modem answers is its client's only one.
use Rattle.std.proofs.Common.{◌≢◌, ℕ, List, [], ◌∷◌}
use Rattle.proxy_history.specs.Events.{Event}
use Rattle.proxy_history.specs.Items.{Item}
use Rattle.proxy_history.specs.Facts.{Fact, EventBegan}
use Rattle.proxy_history.specs.Sound.{IsSound}
use Rattle.proxy_history.specs.Coming.{AreSound}
use Rattle.proxy_history.specs.History as proxy
use Rattle.proxy_history.specs.History.{add, add_all}
use Rattle.proxy_history.specs.Items.{items_of}
use Rattle.proxy_history.proofs.Walk.{sound_items, begun_is_sound, requests_are_asked}
use Rattle.proxy_solo.proofs.Histories.{follows}
use Rattle.mbim_proxy.specs.Setup.{Setup}
use Rattle.mbim_proxy.specs.History.{mbim_protocol, history}
use Rattle.mbim_proxy.proofs.Walk.{Asks, orderly}
use Rattle.mbim_solo.specs.Solo.{restated}
use Rattle.mbim_solo.proofs.Reading.{reads}
use Rattle.mbim_solo.proofs.Views.{OpenOnce}
use Rattle.mbim_solo.proofs.Places.{newest}
use Rattle.mbim_solo.proofs.Once.{item_once, finish_once}
use Rattle.mbim_solo.proofs.Hearing.{Fit}

module _ (s : Setup) (c : ℕ) (client : c ≢ 0) where
  pub items_once : (items : List Item) (past : List Fact) → IsSound s.limits past → OpenOnce s c past → OpenOnce s c (add_all (mbim_protocol s) items past)
  unfolding add_all
  items_once [] past sound once = once
  items_once (item ∷ items) past sound once = items_once items (add (mbim_protocol s) item past) (sound_items (mbim_protocol s) (Asks s) (orderly s) (item ∷ []) past sound) (item_once s c item past sound once)

  once_in : (events : List Event) → OpenOnce s c (history s events)
  unfolding proxy.history
  once_in [] = tt
  once_in (event ∷ events) =
      let begun = begun_is_sound (mbim_protocol s) (Asks s) (orderly s) events in
      finish_once s c _ (sound_items (mbim_protocol s) (Asks s) (orderly s) (items_of (mbim_protocol s) events event) (EventBegan ∷ history s events) begun)
      (items_once (items_of (mbim_protocol s) events event) (EventBegan ∷ history s events) begun (tt, once_in events))

  pub histories_are_fit : (events : List Event) → AreSound (mbim_protocol s) events → Fit s c (history s events)
  histories_are_fit events sound = record {
    placed = (follows (mbim_protocol s) (Asks s) (orderly s) restated reads c client (newest s c client) events sound).placed;
    once = once_in events;
    asked = requests_are_asked (mbim_protocol s) (Asks s) (orderly s) events;
  }
