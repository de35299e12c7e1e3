use Rattle.std.proofs.Common.{◌≡◌, map, take}
use Rattle.mbim_fields.specs.Value.{number}
use Rattle.mbim_fields.specs.View.{value_view}
use Rattle.mbim_services.specs.Writing.{cids_in}
use Rattle.sim_mbim.proofs.lists.cids_in.Given as goal

abbrev pub invariant-loop-pair : goal.invariant-loop-pair
invariant-loop-pair l = map value_view l.cids.items ≡ map number (cids_in (take l.pair-index l.pairs))
