-- Finding a layout.
use Rattle.std.proofs.Common.{◌≡◌, ℕ, List}
use Rattle.mbim_services.specs.Table.{Row, find}
use Rattle.mbim_services.specs.declared.table.Way.{Way}

-- what is found in the rest is what is found in all
pub record StillToFind (all rest : List Row) (service : List ℕ) (cid : ℕ) (way : Way) : Type 0 where
  pub same : find rest service cid way ≡ find all service cid way
