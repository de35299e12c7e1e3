use Rattle.std.proofs.Common.{◌≡◌, length}
use Rattle.mbim_proxy.specs.Setup.{Setup}
use Rattle.proxy_history.specs.View.{OpenedWith}
use Rattle.mbim_state.specs.Transitions.{tell_each}
use Rattle.mbim_core.specs.Hand.{hand_of, IsOf}
use Rattle.mbim_core.specs.State.{state_of}
use Rattle.mbim_core.proofs.teller.Teller.end_opening.Given as goal

-- with those told who are left, all are told
abbrev pub invariant-loop-name : goal.invariant-loop-name
invariant-loop-name l = record {
  told : (s : Setup) → tell_each s (OpenedWith l.status) l.waiting (state_of l.connections l.side) ≡ tell_each s (OpenedWith l.status) l.initial.waiting (state_of l.initial.connections l.initial.side);
  agrees : IsOf l.connections l.side (hand_of l.self);
}

abbrev pub decreases-loop-name : goal.decreases-loop-name
decreases-loop-name l = length l.waiting
