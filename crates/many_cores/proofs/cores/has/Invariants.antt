use Rattle.std.proofs.Common.{◌≡◌, ◌<◌, ◌≤◌, ◌-◌, ◌==◌, ℕ, false, length, slice_get, Some}
use Rattle.proxy_state.specs.Stands.{names_of}
use Rattle.many_cores.proofs.cores.has.Given as goal

abbrev pub invariant-loop-place : goal.invariant-loop-place
invariant-loop-place l = record {
  within : l.place ≤ length l.core.state.table.present;
  earlier : (i n : ℕ) → i < l.place → slice_get (names_of l.core) i ≡ Some n → (l.name == n) ≡ false;
}

abbrev pub decreases-loop-place : goal.decreases-loop-place
decreases-loop-place l = length l.core.state.table.present - l.place
