use Rattle.proxy_history.specs.Orderly.{Anything}
use Rattle.many_lawful.proofs.Lawful.{many_is_lawful}
use Rattle.many_lawful.proofs.proxies_of_several_devices_are_lawful.Goals as goal

pub returns : goal.returns
returns g c = λ s orderly own_bytes asks. many_is_lawful s (λ d. Anything) orderly own_bytes asks
