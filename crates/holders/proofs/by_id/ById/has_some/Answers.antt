use Rattle.std.proofs.Common.{ap, ◌∙◌}
use Rattle.proxy_history.specs.ClientIds.{holds_some}
use Rattle.holders.proofs.Places.{list_any-holds_some}
use Rattle.holders.proofs.by_id.ById.has_some.Goals as goal

pub returns : goal.returns
returns c = c.some_is_of.ensures ∙ list_any-holds_some c.args.number c.args.service c.deref.result.now ∙ ap (holds_some c.args.number c.args.service) (c.deref.ensures.value ∙ c.self.view_is)
