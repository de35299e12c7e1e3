use Rattle.std.proofs.Common.{take}
use Rattle.lone_client.specs.Relay.{hear_each}
use Rattle.rig_stage.specs.Ready.{StaysReady}
use Rattle.rig_stage.specs.Running.{Moves}
use Rattle.transparency.proofs.relaying.arrive.Given as goal

-- the first so many messages have arrived
abbrev pub invariant-loop-message : goal.invariant-loop-message
invariant-loop-message g l = record {
  ready : StaysReady (g.B.Bench.is_held l.bench) (g.B.Bench.face l.initial.bench) (g.B.Bench.face l.bench);
  met : Moves g.B.Bench.keeps g.B.Bench.runs (λ p past. hear_each (take l.message-index l.messages) past) l.initial.bench l.bench;
}
