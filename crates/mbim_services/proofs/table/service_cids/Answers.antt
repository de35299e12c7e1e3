use Rattle.std.proofs.Common.{◌≡◌, ℕ, List, subst}
use Rattle.std.specs.Prelude.{IfOk}
use Rattle.mbim_services.specs.Table.{Row, rows, cids_among}
use Rattle.mbim_services.proofs.table.service_cids.Goals as goal

pub returns : goal.returns
returns c =
    subst (λ (uuid : List ℕ). IfOk c.cids_among.result (λ cids. cids.items ≡ cids_among uuid rows)) c.uuid.ensures
    (subst (λ (all : List Row). IfOk c.cids_among.result (λ cids. cids.items ≡ cids_among c.uuid.result all)) c.rows.ensures c.cids_among.ensures)
