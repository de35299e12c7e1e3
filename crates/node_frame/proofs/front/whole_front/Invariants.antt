use Rattle.std.proofs.Common.{◌≤◌, ◌-◌, length}
use Rattle.node_frame.proofs.WholeFront.{IsFront}
use Rattle.node_frame.proofs.front.whole_front.Given as goal

abbrev pub decreases-loop-count : goal.decreases-loop-count
decreases-loop-count l = length l.bytes - l.at

abbrev pub invariant-loop-count : goal.invariant-loop-count
invariant-loop-count l = record {
  front : IsFront l.bytes l.at;
  within : l.at ≤ length l.bytes;
}
