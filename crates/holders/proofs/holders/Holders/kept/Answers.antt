use Rattle.std.proofs.Common.{ap, ◌∙◌}
use Rattle.holders.specs.Kept.{Ids, since_in}
use Rattle.holders.proofs.Kept.{since_is}
use Rattle.holders.proofs.holders.Holders.kept.Goals as goal

pub returns : goal.returns
returns c = c.number.ensures.number ∙ since_is c.args.service c.args.cid c.self.inside.kept ∙ ap (λ (ids : Ids). since_in c.args.service c.args.cid ids.kept) c.self.view_is
