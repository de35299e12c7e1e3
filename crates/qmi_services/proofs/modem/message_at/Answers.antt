use Rattle.std.proofs.Common.{map, ◌∙◌}
use Rattle.qmi_services.specs.View.{row_view}
use Rattle.qmi_services.proofs.Lines.{row_at-is, row-well_made}
use Rattle.qmi_services.proofs.modem.message_at.Goals as goal

pub invariant_of-result : goal.invariant_of-result
invariant_of-result c = row-well_made (map (λ row. row_view row.now) c.rows.result) c.args.service c.args.id _ c.rows.ensures c.in_ok-row.ensures

pub returns-in_err-row : goal.returns-in_err-row
returns-in_err-row c = rw (c.from_residual.ensures) (c.in_err-row.ensures ∙ row_at-is (map (λ row. row_view row.now) c.rows.result) c.args.service c.args.id c.rows.ensures)

pub returns : goal.returns
returns c = c.in_ok-row.ensures ∙ row_at-is (map (λ row. row_view row.now) c.rows.result) c.args.service c.args.id c.rows.ensures
