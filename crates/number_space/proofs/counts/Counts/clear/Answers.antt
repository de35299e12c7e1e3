use Rattle.std.proofs.Common.{ℕ, replicate, ap, ◌∙◌}
use Rattle.number_space.specs.Counts.{nobody}
use Rattle.number_space.proofs.Waiting.{nobody_waits}
use Rattle.number_space.proofs.counts.Counts.clear.Goals as goal

pub returns : goal.returns
returns c = nobody_waits _ (c.fill.ensures.items (λ y same. same) ∙ ap (λ (k : ℕ). replicate k nobody) c.self.invariant)
