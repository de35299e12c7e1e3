use Rattle.proxy_history.specs.Orderly.{Anything}
use Rattle.many_dropped.proofs.Dropping.{dropped_there}
use Rattle.many_dropped.proofs.dropped_by_their_device.Goals as goal

pub returns : goal.returns
returns g c = λ s orderly takes events c d name sound at. dropped_there s (λ e. Anything) orderly takes events c d name sound at
