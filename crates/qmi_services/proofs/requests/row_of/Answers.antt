use Rattle.std.proofs.Common.{map, ◌∙◌}
use Rattle.qmi_services.specs.Requests.{row_of}
use Rattle.qmi_services.specs.View.{row_view}
use Rattle.qmi_services.proofs.Lines.{line-found, is-there, is-line}
use Rattle.qmi_services.proofs.requests.row_of.Goals as goal

pub unwrap-requires : goal.unwrap-requires
unwrap-requires c =
    is-there (λ row. row_view row.now) (row_of c.args.body.now) c.row_in.result
    (c.row_in.ensures ∙ line-found c.args.body.now (map (λ row. row_view row.now) c.rows.result) _ _ c.rows.ensures c.address_of-service.ensures.service c.address_of-service.ensures.id)

pub returns : goal.returns
returns c =
    is-line (λ row. row_view row.now) (row_of c.args.body.now) c.row_in.result c.unwrap.result
    (c.row_in.ensures ∙ line-found c.args.body.now (map (λ row. row_view row.now) c.rows.result) _ _ c.rows.ensures c.address_of-service.ensures.service c.address_of-service.ensures.id)
    c.unwrap.ensures
