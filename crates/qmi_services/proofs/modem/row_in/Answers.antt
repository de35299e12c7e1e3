use Rattle.std.proofs.Common.{sym}
use Rattle.qmi_services.specs.Modem.{is_at}
use Rattle.qmi_services.specs.View.{row_view}
use Rattle.qmi_services.proofs.Found.{find-at, find-more}
use Rattle.qmi_services.proofs.Lines.{both_are, other_service, other_id}
use Rattle.qmi_services.proofs.modem.row_in.Goals as goal
use Rattle.qmi_services.proofs.modem.row_in.Goals.{else-row-service-via-then-row-service+else-row-id, else-row-service-via-else-row-service}

pub returns-then-row-id : goal.returns-then-row-id
returns-then-row-id c =
    sym
    (find-at (is_at c.args.service c.args.id) (λ row. row_view row.now) c.args.rows.now c.loop-row.row-index _ c.loop-row-test.true c.loop-row.invariant
    (both_are _ _ c.args.service c.args.id c.if-row-service.true c.if-row-id.true))

pub loop-row-preserved : goal.loop-row-preserved
loop-row-preserved c =
    elim c.else-row-service.branch [
      | else-row-service-via-then-row-service+else-row-id w ↦
          find-more (is_at c.args.service c.args.id) (λ row. row_view row.now) c.args.rows.now c.loop-row.row-index _ c.loop-row-test.true c.loop-row.invariant (other_id _ _ c.args.service c.args.id w.if-row-id.false)
      | else-row-service-via-else-row-service w ↦
          find-more (is_at c.args.service c.args.id) (λ row. row_view row.now) c.args.rows.now c.loop-row.row-index _ c.loop-row-test.true c.loop-row.invariant (other_service _ _ c.args.service c.args.id w.if-row-service.false)
    ]
