use Rattle.proxy_history.specs.Orderly.{Anything}
use Rattle.proxy_history.proofs.Lawful.{proxy_is_lawful}
use Rattle.proxy_history.proofs.laws.orderly_proxies_are_lawful.Goals as goal

pub returns : goal.returns
returns c = λ start p O. proxy_is_lawful p Anything O
