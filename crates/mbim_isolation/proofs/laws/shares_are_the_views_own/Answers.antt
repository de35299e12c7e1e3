use Rattle.mbim_isolation.proofs.Shares.{shares_are_the_views_own, views_decide_first}
use Rattle.mbim_isolation.proofs.laws.shares_are_the_views_own.Goals as goal

pub returns : goal.returns
returns c = record { shares = shares_are_the_views_own; decisions = views_decide_first }
