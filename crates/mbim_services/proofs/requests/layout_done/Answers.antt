use Rattle.std.proofs.Common.{◌∙◌}
use Rattle.mbim_fields.specs.View.{shape_view}
use Rattle.mbim_services.specs.Requests.{sent_by}
use Rattle.mbim_services.specs.declared.table.Way.TheVariants.{Done}
use Rattle.mbim_services.proofs.Rows.{layout-found, is-there, is-it}
use Rattle.mbim_services.proofs.requests.layout_done.Goals as goal

pub unwrap-requires : goal.unwrap-requires
unwrap-requires c =
    is-there shape_view (sent_by c.args.body.now).row.done c.layout.result
    (c.layout.ensures ∙ layout-found c.args.body.now Done _ _ (c.uuid.ensures ∙ c.address_of-service.ensures.service) c.address_of-service.ensures.cid)

pub returns : goal.returns
returns c =
    is-it shape_view (sent_by c.args.body.now).row.done c.layout.result c.unwrap.result
    (c.layout.ensures ∙ layout-found c.args.body.now Done _ _ (c.uuid.ensures ∙ c.address_of-service.ensures.service) c.address_of-service.ensures.cid)
    c.unwrap.ensures
