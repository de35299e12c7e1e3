use Rattle.std.proofs.Common.{◌≡◌, None, map, take}
use Rattle.std.specs.Prelude.{find}
use Rattle.qmi_services.specs.Modem.{is_at}
use Rattle.qmi_services.specs.View.{row_view}
use Rattle.qmi_services.proofs.modem.row_in.Given as goal

abbrev pub invariant-loop-row : goal.invariant-loop-row
invariant-loop-row l = find (is_at l.service l.id) (map (λ row. row_view row.now) (take l.row-index l.rows)) ≡ None
