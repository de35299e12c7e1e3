use Rattle.mbim_proxy.proofs.Named.{names_by_its_layout}
use Rattle.mbim_proxy.proofs.laws.devices_are_named_by_the_layout.Goals as goal

pub returns : goal.returns
returns c = names_by_its_layout
