use Rattle.std.proofs.Common.{◌≡◌}
use Rattle.number_space.proofs.Due.{waiting_count}
use Rattle.proxy_core.specs.Meaning.{state_of}
use Rattle.qmi_state.specs.Transitions.{expires_space}
use Rattle.qmi_core.proofs.Expires.{rows_at}
use Rattle.qmi_core.proofs.telling.expire_space.Given as goal

-- what is left to be refused, refused, is what there was to be refused, refused
abbrev pub invariant-loop-name : goal.invariant-loop-name
invariant-loop-name l = record {
  told : expires_space l.control l.time (state_of l.connections l.side) ≡ expires_space l.control l.time (state_of l.initial.connections l.initial.side);
  limit : l.connections.limit ≡ l.initial.connections.limit;
}

abbrev pub decreases-loop-name : goal.decreases-loop-name
decreases-loop-name l = waiting_count (rows_at l.control (state_of l.connections l.side))
