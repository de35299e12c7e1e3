use Rattle.std.proofs.Common.{◌≡◌, ◌+◌, ◌≤◌, length, drop}
use Rattle.mbim_services.specs.Writing.{cids_in}
use Rattle.mbim_services.proofs.lists.cid_count.Given as goal

abbrev pub invariant-loop-pair : goal.invariant-loop-pair
invariant-loop-pair l = (l.count + length (cids_in (drop l.pair-index l.pairs)) ≡ length (cids_in l.pairs)) × (l.count ≤ l.pair-index)
