use Rattle.mbim_services.proofs.Laid.{written}
use Rattle.mbim_services.proofs.laws.lists_are_written.Goals as goal

pub returns : goal.returns
returns c = written
