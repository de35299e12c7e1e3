use Rattle.std.proofs.Common.{◌≡◌, length}
use Rattle.framing.specs.Cutting.{cut}
use Rattle.rig_runs.specs.Stage as rig
use Rattle.rig_stage.specs.Stage.{Holds}
use Rattle.rig_stage.proofs.Acting.{IsAsking}
use Rattle.rig_stage.proofs.stage.Stage.ask_all.Given as goal

-- the messages that are left are those that weren't asked yet
abbrev pub invariant-loop-count : goal.invariant-loop-count
invariant-loop-count g l = record {
  asking : (cast : rig.Cast) (stage : rig.Stage) → Holds g.S.Sim.keeps g.S.Framing.Framing.size cast stage l.initial.self
      → IsAsking g.S.Sim.keeps g.S.Framing.Framing.size cast (cut g.S.Framing.Framing.size l.initial.rest).messages (cut g.S.Framing.Framing.size l.rest).messages stage l.self;
  clients : l.self.clients ≡ l.initial.self.clients;
  time : l.self.time ≡ l.initial.self.time;
}

abbrev pub decreases-loop-count : goal.decreases-loop-count
decreases-loop-count g l = length l.rest
