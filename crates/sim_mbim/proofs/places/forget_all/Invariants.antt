use Rattle.std.proofs.Common.{◌≡◌, length, take, replicate}
use Rattle.std.specs.Prelude.{None}
use Rattle.sim_mbim.proofs.places.forget_all.Given as goal

abbrev pub invariant-loop-place : goal.invariant-loop-place
invariant-loop-place g l = (length l.places.items ≡ length l.initial.places.items) × (take l.place l.places.items ≡ replicate l.place None)
