use Rattle.many_dropped.proofs.Apart.{dropped_apart}
use Rattle.many_dropped.proofs.each_is_dropped_once.Goals as goal

pub returns : goal.returns
returns g c = λ s events sound. dropped_apart s events sound
