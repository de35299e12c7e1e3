use Rattle.std.proofs.Common.{◌≡◌, ◌++◌, length}
use Rattle.framing.specs.Cutting.{cut}
use Rattle.rig_stage.proofs.stage.Stage.hold.Given as goal

-- the messages that are left are those that aren't held yet
abbrev pub invariant-loop-count : goal.invariant-loop-count
invariant-loop-count g l = record {
  held : l.self-inside.held.items ++ (cut g.S.Framing.Framing.size l.rest).messages ≡ l.initial.self-inside.held.items ++ (cut g.S.Framing.Framing.size l.initial.rest).messages;
  modem : l.self-inside.modem ≡ l.initial.self-inside.modem;
  clients : l.self-inside.clients ≡ l.initial.self-inside.clients;
  time : l.self-inside.time ≡ l.initial.self-inside.time;
}

abbrev pub decreases-loop-count : goal.decreases-loop-count
decreases-loop-count g l = length l.rest
