use Rattle.number_space.proofs.Waiting.{nobody_waits}
use Rattle.number_space.proofs.counts.Counts.none.Goals as goal

pub returns : goal.returns
returns c = nobody_waits _ (c.in_ok-from_elem.ensures.items_if_clones_equal (λ y same. same))
