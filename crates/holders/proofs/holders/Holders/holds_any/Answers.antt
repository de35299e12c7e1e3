use Rattle.std.proofs.Common.{ap, ◌∙◌}
use Rattle.proxy_history.specs.ClientIds.{holds_some}
use Rattle.holders.specs.Kept.{Ids}
use Rattle.holders.specs.Calls.{held_after}
use Rattle.holders.proofs.Sets.{same_some}
use Rattle.holders.proofs.holders.Holders.holds_any.Goals as goal

pub returns-clause-stands : goal.returns-clause-stands
returns-clause-stands c = λ calls stands. c.has_some.ensures ∙ ap (λ (ids : Ids). holds_some c.args.conn c.args.service ids.held) c.self.view_is ∙ same_some c.args.conn c.args.service (held_after calls) c.args.self.now.held stands
