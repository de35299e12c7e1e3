use Rattle.std.proofs.Common.{◌≡◌}
use Rattle.number_space.proofs.Due.{waiting_count}
use Rattle.mbim_core.specs.Hand.{hand_of, IsOf}
use Rattle.mbim_core.specs.State.{state_of}
use Rattle.mbim_core.specs.Told.{rows_at}
use Rattle.mbim_core.proofs.Expires.{expire_now}
use Rattle.mbim_core.proofs.teller.Teller.expire.Given as goal

-- what is left to be refused, refused, is what there was to be refused, refused
abbrev pub invariant-loop-name : goal.invariant-loop-name
invariant-loop-name l = record {
  told : expire_now l.time (state_of l.connections l.side) ≡ expire_now l.time (state_of l.initial.connections l.initial.side);
  agrees : IsOf l.connections l.side (hand_of l.self);
}

abbrev pub decreases-loop-name : goal.decreases-loop-name
decreases-loop-name l = waiting_count (rows_at (state_of l.connections l.side))
