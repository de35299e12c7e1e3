use Rattle.holders.proofs.Kept.{kept_no_more}
use Rattle.holders.proofs.holders.Holders.used.Goals as goal

pub returns-then-forget-clause-ids : goal.returns-then-forget-clause-ids
returns-then-forget-clause-ids c = kept_no_more c.args.service c.args.cid c.self.inside.held c.self.inside.kept c.forget.new.self c.args.self.now c.self.view_is c.forget.ensures.ids

pub returns-else-forget-clause-ids : goal.returns-else-forget-clause-ids
returns-else-forget-clause-ids c = kept_no_more c.args.service c.args.cid c.self.inside.held c.self.inside.kept c.forget.new.self c.args.self.now c.self.view_is c.forget.ensures.ids
