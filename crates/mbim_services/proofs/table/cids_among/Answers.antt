use Rattle.mbim_services.specs.View.{row_view}
use Rattle.mbim_services.proofs.Rows.{cids-more}
use Rattle.mbim_services.proofs.table.cids_among.Goals as goal

pub loop-row-preserved : goal.loop-row-preserved
loop-row-preserved c = cids-more c.args.service (λ row. row_view row.now) c.args.rows.now c.loop-row.row-index _ _ _ c.loop-row-test.true c.loop-row.invariant c.in_ok-push_cid.ensures
