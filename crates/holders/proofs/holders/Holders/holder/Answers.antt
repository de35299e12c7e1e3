use Rattle.std.proofs.Common.{ap, ◌∙◌, subst}
use Rattle.proxy_history.specs.ClientIds.{holder_in}
use Rattle.holders.specs.Grants.{AreInOrder}
use Rattle.holders.specs.Kept.{Ids}
use Rattle.holders.specs.Calls.{held_after}
use Rattle.holders.proofs.Sets.{same_holder}
use Rattle.holders.proofs.holders.Holders.holder.Goals as goal

pub returns-clause-stands : goal.returns-clause-stands
returns-clause-stands c = λ calls stands.
    c.number.ensures.number ∙ ap (λ (ids : Ids). holder_in c.args.service c.args.cid ids.held) c.self.view_is
    ∙ same_holder c.args.service c.args.cid (held_after calls) c.args.self.now.held stands (subst (λ (ids : Ids). AreInOrder ids.held) c.self.view_is c.number.ensures.ordered)
