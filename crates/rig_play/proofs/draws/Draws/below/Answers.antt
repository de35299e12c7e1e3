use Rattle.std.proofs.Common.{◌≡◌, ℕ, ◌+◌, ◌*◌, ◌%◌, ◌/◌, ap, arith}
use Rattle.rig_runs.specs.Draws.{next}
use Rattle.rig_play.proofs.draws.Draws.below.Goals as goal

-- a remainder may be taken early
early : (y c : ℕ) → (y % 18446744073709551616 + c) % 18446744073709551616 ≡ (y + c) % 18446744073709551616
early y c = omega arith

pub returns-clause-next : goal.returns-clause-next
unfolding next
returns-clause-next c = early (c.args.self.now.x * 6364136223846793005) 1442695040888963407

pub returns-clause-drawn : goal.returns-clause-drawn
unfolding next
returns-clause-drawn c = ap (λ n. n / 8589934592 % c.args.below) (early (c.args.self.now.x * 6364136223846793005) 1442695040888963407)
