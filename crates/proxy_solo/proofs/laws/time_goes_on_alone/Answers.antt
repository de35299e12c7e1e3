use Rattle.proxy_history.specs.Orderly.{Anything}
use Rattle.proxy_solo.proofs.Time.{solo_time}
use Rattle.proxy_solo.proofs.laws.time_goes_on_alone.Goals as goal

pub returns : goal.returns
returns c = λ start p O a conn events. solo_time p Anything O a conn events
