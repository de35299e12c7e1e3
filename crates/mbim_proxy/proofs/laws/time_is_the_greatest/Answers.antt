use Rattle.proxy_history.proofs.Folds.{time_agrees}
use Rattle.mbim_proxy.specs.History.{mbim_protocol}
use Rattle.mbim_proxy.proofs.Walk.{Asks, orderly}
use Rattle.mbim_proxy.proofs.laws.time_is_the_greatest.Goals as goal

pub returns : goal.returns
returns c = λ s event events. time_agrees (mbim_protocol s) (Asks s) (orderly s) event events
