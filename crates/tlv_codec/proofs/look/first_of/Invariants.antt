use Rattle.std.proofs.Common.{◌-◌, length}
use Rattle.tlv_codec.proofs.Looking.{HasLooked}
use Rattle.tlv_codec.proofs.look.first_of.Given as goal

abbrev pub decreases-loop-place : goal.decreases-loop-place
decreases-loop-place l = length l.bytes - l.place

abbrev pub invariant-loop-place : goal.invariant-loop-place
invariant-loop-place l = HasLooked l.bytes l.kind l.place l.first
