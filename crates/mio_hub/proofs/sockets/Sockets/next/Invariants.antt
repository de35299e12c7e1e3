use Rattle.std.proofs.Common.{◌≡◌, length}
use Rattle.mio_hub.proofs.sockets.Sockets.next.Given as goal

abbrev pub invariant-loop : goal.invariant-loop
invariant-loop g l = (l.self.names ≡ l.initial.self.names) × (length l.buf ≡ 16384)
