-- Who is there got all that was due to it.
use Rattle.std.proofs.Common.{List, ◌∷◌}
use Rattle.proxy_history.specs.Events.{Event}
use Rattle.proxy_history.specs.Items.{Item}
use Rattle.proxy_history.specs.Facts.{Fact, EventBegan}
use Rattle.proxy_history.specs.Sound.{IsSound}
use Rattle.proxy_history.specs.Adding.{AllFit}
use Rattle.proxy_history.proofs.Walk as walk
use Rattle.qmi_proxy.specs.Setup.{Setup}
use Rattle.qmi_proxy.specs.Limits.{qmi_limits}
use Rattle.qmi_proxy.specs.Text.{qmi_wording}
use Rattle.qmi_proxy.specs.History.{qmi_protocol, add_all, history}
use Rattle.qmi_proxy.proofs.Walk.{Asks, orderly}

module _ (s : Setup) where
  abbrev pub Fits : List Fact → Type 0
  Fits past = AllFit qmi_limits (qmi_wording s.device) past

  pub begun_fits : (past : List Fact) → Fits past → Fits (EventBegan ∷ past)
  begun_fits past fits = walk.begun_fits (qmi_protocol s) (Asks s) (orderly s) past fits

  pub items_fit : (items : List Item) (past : List Fact) → IsSound qmi_limits past → Fits past → Fits (add_all s items past)
  items_fit items past sound fits = walk.items_fit (qmi_protocol s) (Asks s) (orderly s) items past sound fits

  pub nobody_there_is_over : (events : List Event) → Fits (history s events)
  nobody_there_is_over events = walk.all_fit (qmi_protocol s) (Asks s) (orderly s) events
