use Rattle.std.proofs.Common.{List, ℕ, length}
use Rattle.framing.specs.Cutting.{cut}
use Rattle.sim_modem.specs.Sim.{Answering}
use Rattle.transparency.proofs.Hearing.{IsHearing}
use Rattle.transparency.proofs.asking.ask_all.Given as goal

-- the messages that are left are those that weren't asked yet
abbrev pub invariant-loop-count : goal.invariant-loop-count
invariant-loop-count g l = (modem : Answering) (asked : List (List ℕ)) → g.S.Sim.keeps modem asked l.initial.sim
    → IsHearing g.S.Sim.keeps g.S.Framing.Framing.size modem asked (cut g.S.Framing.Framing.size l.initial.rest).messages (cut g.S.Framing.Framing.size l.rest).messages l.messages.items l.sim

abbrev pub decreases-loop-count : goal.decreases-loop-count
decreases-loop-count g l = length l.rest
