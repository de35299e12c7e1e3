use Rattle.mbim_services.proofs.Listed.{read}
use Rattle.mbim_services.proofs.laws.lists_are_read.Goals as goal

pub returns : goal.returns
returns c = read
