use Rattle.std.proofs.Common.{◌≡◌, ℕ, List, length}
use Rattle.framing.specs.Cutting.{cut}
use Rattle.served_sim.specs.Conduct.{Conduct}
use Rattle.sim_serving.proofs.Hearing.{IsAsking}
use Rattle.sim_serving.proofs.client.ask_all.Given as goal

-- what is left to ask, asked, is what there was to ask, asked
abbrev pub invariant-loop-span : goal.invariant-loop-span
invariant-loop-span g l = record {
  asking : (ticks : ℕ) (conduct : Conduct) (before : List (List ℕ)) → g.S.ServedSim.keeps ticks conduct before l.initial.sim
      → IsAsking g.S.ServedSim.keeps ticks conduct before (cut g.S.Framing.Framing.size l.initial.stream.rest).messages l.initial.replies (cut g.S.Framing.Framing.size l.stream.rest).messages l.sim l.replies;
  rest : (cut g.S.Framing.Framing.size l.stream.rest).rest ≡ (cut g.S.Framing.Framing.size l.initial.stream.rest).rest;
}

abbrev pub decreases-loop-span : goal.decreases-loop-span
decreases-loop-span g l = length l.stream.rest
