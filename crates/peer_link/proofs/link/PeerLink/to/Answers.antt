use Rattle.std.proofs.Common.{arith}
use Rattle.peer_link.proofs.Leading.{begins}
use Rattle.peer_link.proofs.link.PeerLink.to.Goals as goal

pub invariant_of-result : goal.invariant_of-result
invariant_of-result g c = (omega arith, λ tells. rw (c.new.ensures.items, c.new-2.ensures.items) (begins c.args.answerer c.requires))
