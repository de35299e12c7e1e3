use Rattle.std.proofs.Common.{◌+◌, ◌*◌, ◌≤◌, drop}
use Rattle.std.specs.List.{flat_map}
use Rattle.kit_bytes.specs.Numbers.{number_bytes}
use Rattle.mbim_services.specs.Writing.{cids_in}
use Rattle.mbim_services.proofs.Runs.{PutsOn}
use Rattle.mbim_services.proofs.lists.put_cids.Given as goal

abbrev pub invariant-loop-pair : goal.invariant-loop-pair
invariant-loop-pair l =
    PutsOn l.at (flat_map (number_bytes 4) (cids_in l.pairs)) (flat_map (number_bytes 4) (cids_in (drop l.pair-index l.pairs))) l.end l.initial.into l.into × (l.end ≤ l.at + 4 * l.pair-index)
