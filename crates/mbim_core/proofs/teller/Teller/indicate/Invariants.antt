use Rattle.std.proofs.Common.{◌≡◌, ◌-◌, length}
use Rattle.mbim_core.specs.Hand.{hand_of, IsOf}
use Rattle.mbim_core.specs.State.{state_of, indicated_from}
use Rattle.mbim_core.proofs.teller.Teller.indicate.Given as goal

-- what is left to be told, told, is what there was to be told, told
abbrev pub invariant-loop-index : goal.invariant-loop-index
invariant-loop-index l = record {
  told : indicated_from l.head l.body l.index (state_of l.connections l.side) ≡ indicated_from l.head l.body 0 (state_of l.initial.connections l.initial.side);
  agrees : IsOf l.connections l.side (hand_of l.self);
}

abbrev pub decreases-loop-index : goal.decreases-loop-index
decreases-loop-index l = length l.connections.present - l.index
