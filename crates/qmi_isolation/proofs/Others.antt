-- What another client does leaves a client's bytes as they are.
use Rattle.std.proofs.Common.{◌≡◌, ℕ, true, List, ◌∷◌}
use Rattle.proxy_history.specs.Events.{Event, is_anothers}
use Rattle.proxy_history.proofs.Folds as folds
use Rattle.qmi_proxy.specs.Setup.{Setup}
use Rattle.qmi_proxy.specs.History.{qmi_protocol, text_for}
use Rattle.qmi_proxy.proofs.Walk.{Asks, orderly}

pub others_change_nothing : (s : Setup) (client : ℕ) (event : Event) (events : List Event) → is_anothers client event ≡ true → text_for s client (event ∷ events) ≡ text_for s client events
others_change_nothing s client event events other = folds.others_change_nothing (qmi_protocol s) (Asks s) (orderly s) client event events other
