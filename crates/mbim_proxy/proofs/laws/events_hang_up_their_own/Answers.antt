use Rattle.std.proofs.Common.{ap, ◌∙◌}
use Rattle.proxy_history.specs.Connections.{dropped}
use Rattle.proxy_history.proofs.HungUp.{hung_up_since}
use Rattle.proxy_history.proofs.Folds.{events_add}
use Rattle.mbim_proxy.specs.History.{mbim_protocol, history}
use Rattle.mbim_proxy.proofs.Walk.{Asks, orderly}
use Rattle.mbim_proxy.proofs.laws.events_hang_up_their_own.Goals as goal

pub returns : goal.returns
returns c = λ s event events.
    let g = events_add (mbim_protocol s) (Asks s) (orderly s) event events in
    record { since = g.since; whole = g.whole; none = g.none; hung_up = ap dropped g.whole ∙ hung_up_since g.since (history s events) g.none }
