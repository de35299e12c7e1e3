use Rattle.std.proofs.Common.{◌≡◌, ◌<◌, ◌≤◌, ◌-◌, ℕ, false, length}
use Rattle.proxy_history.specs.Events.{Now}
use Rattle.many_cores.specs.Cores.{met, HasNoFewer}
use Rattle.many_cores.proofs.Places.{changed_to}
use Rattle.many_cores.proofs.cores.Cores.tick.Given as goal

abbrev pub invariant-loop-device : goal.invariant-loop-device
invariant-loop-device l = record {
  within : l.device ≤ length l.initial.self;
  changed : l.self ≡ changed_to (met (Now l.time)) l.device l.initial.self;
  fewer : l.fewer ≡ false → (d : ℕ) → d < l.device → HasNoFewer d (Now l.time) l.initial.self;
}

abbrev pub decreases-loop-device : goal.decreases-loop-device
decreases-loop-device l = length l.initial.self - l.device
