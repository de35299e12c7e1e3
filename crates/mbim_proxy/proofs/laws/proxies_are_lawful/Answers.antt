use Rattle.mbim_proxy.proofs.Lawful.{proxies_are_lawful}
use Rattle.mbim_proxy.proofs.laws.proxies_are_lawful.Goals as goal

pub returns : goal.returns
returns c = proxies_are_lawful
