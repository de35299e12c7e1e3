use Rattle.std.proofs.Common.{rules}
use Rattle.std.proofs.lemmas.Fn.{dedup_same}
use Rattle.subscriptions.specs.Lists.{covers}
use Rattle.subscriptions.proofs.pair_list.drop_covered.Goals as goal

pub returns-clause-items : goal.returns-clause-items
returns-clause-items c = dedup_same _ (λ x last. covers last x) _ (λ x y b f' x' y' k. search rules) _ _ c.dedup_by.ensures.filtered
