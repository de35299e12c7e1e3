use Rattle.qmi_services.specs.BuiltIn.{forms_of}
use Rattle.qmi_services.specs.View.{row_view}
use Rattle.qmi_services.proofs.Lists.{flat_map-more}
use Rattle.qmi_services.proofs.tables.all_messages.Goals as goal

pub loop-row-preserved : goal.loop-row-preserved
loop-row-preserved c =
    flat_map-more forms_of (λ row. row_view row.now) c.args.rows.now c.loop-row.row-index _ _ _ c.loop-row-test.true c.loop-row.invariant c.in_ok-push_messages.ensures
