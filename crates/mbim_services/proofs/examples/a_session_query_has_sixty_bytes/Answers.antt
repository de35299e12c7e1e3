use Rattle.std.proofs.Common.{refl}
use Rattle.mbim_services.proofs.examples.a_session_query_has_sixty_bytes.Goals as goal

pub returns : goal.returns
returns c = (refl, refl, refl, refl)
