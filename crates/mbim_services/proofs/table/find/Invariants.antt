use Rattle.std.proofs.Common.{map, drop}
use Rattle.mbim_services.specs.View.{row_view}
use Rattle.mbim_services.proofs.Finding.{StillToFind}
use Rattle.mbim_services.proofs.table.find.Given as goal

abbrev pub invariant-loop-row : goal.invariant-loop-row
invariant-loop-row l = StillToFind (map (λ row. row_view row.now) l.rows) (map (λ row. row_view row.now) (drop l.row-index l.rows)) l.service l.cid l.way
