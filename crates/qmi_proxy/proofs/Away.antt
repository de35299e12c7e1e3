-- The modem is away in the facts exactly while its stream is None.
use Rattle.std.proofs.Common.{◌≡◌, ℕ, List, refl, is_none}
use Rattle.qmux_frame.specs.Frame.{size_of}
use Rattle.proxy_history.specs.Events.{Event}
use Rattle.proxy_history.specs.Items.{ModemSays}
use Rattle.proxy_history.specs.Streams.{modem_stream}
use Rattle.proxy_history.specs.Facts.{Fact}
use Rattle.proxy_history.specs.Modem.{is_away}
use Rattle.proxy_history.specs.Sound.{IsSound}
use Rattle.proxy_history.proofs.Folds as folds
use Rattle.qmi_proxy.specs.Setup.{Setup}
use Rattle.qmi_proxy.specs.Limits.{qmi_limits}
use Rattle.qmi_proxy.specs.FromModem.{hear_modem}
use Rattle.qmi_proxy.specs.History.{qmi_protocol, history}
use Rattle.qmi_proxy.proofs.Walk.{Asks, orderly}

-- no message of the modem loses it
pub same_heard : (s : Setup) (m : List ℕ) (past : List Fact) → IsSound qmi_limits past → is_away s.starts_away (hear_modem s.device m past) ≡ is_away s.starts_away past
same_heard s m past sound = folds.item_keeps_away (qmi_protocol s) (Asks s) (orderly s) s.starts_away (ModemSays m) past sound refl

pub away_agrees : (s : Setup) (events : List Event) → is_away s.starts_away (history s events) ≡ is_none (modem_stream size_of s.starts_away events)
away_agrees s events = folds.away_agrees (qmi_protocol s) (Asks s) (orderly s) events
