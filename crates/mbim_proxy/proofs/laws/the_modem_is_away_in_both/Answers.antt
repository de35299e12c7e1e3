use Rattle.proxy_history.proofs.Folds.{away_agrees}
use Rattle.mbim_proxy.specs.History.{mbim_protocol}
use Rattle.mbim_proxy.proofs.Walk.{Asks, orderly}
use Rattle.mbim_proxy.proofs.laws.the_modem_is_away_in_both.Goals as goal

pub returns : goal.returns
returns c = λ s events. away_agrees (mbim_protocol s) (Asks s) (orderly s) events
