use Rattle.std.proofs.Common.{sym, ◌∙◌, ap}
use Rattle.mbim_services.specs.Requests.{sent_by}
use Rattle.mbim_services.specs.Table.{layout_sent}
use Rattle.mbim_services.specs.declared.table.Way.TheVariants.{Query, Set}
use Rattle.mbim_services.proofs.Rows.{layout-found}
use Rattle.mbim_services.proofs.requests.layout_sent.Goals as goal

pub returns-then-set : goal.returns-then-set
returns-then-set c =
    c.layout.ensures
    ∙ layout-found c.args.body.now Set _ _ (c.uuid.ensures ∙ c.address_of-service.ensures.service) c.address_of-service.ensures.cid
    ∙ ap (layout_sent (sent_by c.args.body.now).row) (sym c.if-set.true)

pub returns-else-set : goal.returns-else-set
returns-else-set c =
    c.layout-else-set.ensures
    ∙ layout-found c.args.body.now Query _ _ (c.uuid-else-set.ensures ∙ c.address_of-service.ensures.service) c.address_of-service.ensures.cid
    ∙ ap (layout_sent (sent_by c.args.body.now).row) (sym c.if-set.false)
