use Rattle.std.proofs.Common.{◌∙◌}
use Rattle.subscriptions.proofs.Sorting.{settled}
use Rattle.subscriptions.proofs.pair_list.normalize.Goals as goal

pub returns-clause-items : goal.returns-clause-items
returns-clause-items c = c.drop_covered.ensures.items ∙ settled _ _ c.sort_unstable.ensures.permutation c.sort_unstable.ensures.sorted
