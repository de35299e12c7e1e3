use Rattle.std.proofs.Common.{refl}
use Rattle.mbim_services.proofs.examples.a_radio_state_has_four_bytes.Goals as goal

pub returns : goal.returns
returns c = (refl, refl, refl, refl)
