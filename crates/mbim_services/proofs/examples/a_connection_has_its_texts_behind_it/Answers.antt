use Rattle.std.proofs.Common.{refl}
use Rattle.mbim_services.proofs.examples.a_connection_has_its_texts_behind_it.Goals as goal

pub returns : goal.returns
returns c = (refl, refl, refl, refl)
