use Rattle.std.proofs.Common.{◌≡◌, map, take}
use Rattle.mbim_services.specs.Table.{cids_among}
use Rattle.mbim_services.specs.View.{row_view}
use Rattle.mbim_services.proofs.table.cids_among.Given as goal

abbrev pub invariant-loop-row : goal.invariant-loop-row
invariant-loop-row l = l.cids.items ≡ cids_among l.service (map (λ row. row_view row.now) (take l.row-index l.rows))
