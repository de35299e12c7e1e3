use Rattle.std.proofs.Common.{refl}
use Rattle.mbim_services.proofs.laws.each_layout_is_well_made.Goals as goal

pub returns : goal.returns
returns c = refl
