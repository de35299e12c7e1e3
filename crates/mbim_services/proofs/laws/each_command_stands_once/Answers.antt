use Rattle.std.proofs.Common.{refl}
use Rattle.mbim_services.proofs.laws.each_command_stands_once.Goals as goal

pub returns : goal.returns
returns c = refl
