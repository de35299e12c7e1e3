use Rattle.std.proofs.Common.{◌-◌, length}
use Rattle.tlv_codec.proofs.Reading.{HasRead}
use Rattle.tlv_codec.proofs.read.tlvs.Given as goal

abbrev pub decreases-loop-place : goal.decreases-loop-place
decreases-loop-place l = length l.bytes - l.place

abbrev pub invariant-loop-place : goal.invariant-loop-place
invariant-loop-place l = HasRead l.bytes l.place l.list.items
