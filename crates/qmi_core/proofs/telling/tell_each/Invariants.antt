use Rattle.std.proofs.Common.{◌≡◌, ◌-◌, length}
use Rattle.proxy_core.specs.Meaning.{state_of}
use Rattle.qmi_core.specs.State.{tell_from}
use Rattle.qmi_core.proofs.telling.tell_each.Given as goal

-- what is left to be told, told, is what there was to be told, told
abbrev pub invariant-loop-index : goal.invariant-loop-index
invariant-loop-index l = record {
  told : tell_from l.audience l.bytes l.index (state_of l.connections l.side) ≡ tell_from l.audience l.bytes 0 (state_of l.initial.connections l.initial.side);
  limit : l.connections.limit ≡ l.initial.connections.limit;
}

abbrev pub decreases-loop-index : goal.decreases-loop-index
decreases-loop-index l = length l.connections.present - l.index
