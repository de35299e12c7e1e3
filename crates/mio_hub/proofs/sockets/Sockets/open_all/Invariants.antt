use Rattle.std.proofs.Common.{◌≡◌}
use Rattle.mio_hub.proofs.sockets.Sockets.open_all.Given as goal

abbrev pub invariant-loop-target : goal.invariant-loop-target
invariant-loop-target g l = l.self.names ≡ l.initial.self.names

abbrev pub invariant-loop-device : goal.invariant-loop-device
invariant-loop-device g l = l.self.names ≡ l.initial.self.names
