use Rattle.std.proofs.Common.{◌≡◌, map, take, Some, true}
use Rattle.std.specs.List.{list_all}
use Rattle.sim_qmi.specs.State.{is_stored}
use Rattle.sim_qmi.proofs.state.stored.Given as goal

abbrev pub invariant-loop-message : goal.invariant-loop-message
invariant-loop-message l = record {
  copies : l.stored.items ≡ map Some (take l.message-index l.messages);
  stored : list_all is_stored l.stored.items ≡ true;
}
