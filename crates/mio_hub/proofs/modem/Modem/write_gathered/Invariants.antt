use Rattle.std.proofs.Common.{length}
use Rattle.mio_hub.proofs.modem.Modem.write_gathered.Given as goal

abbrev pub decreases-loop-self : goal.decreases-loop-self
decreases-loop-self l = length l.self.gathered.items
