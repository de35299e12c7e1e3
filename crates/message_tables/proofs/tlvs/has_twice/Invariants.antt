use Rattle.std.proofs.Common.{◌≡◌, take, drop, map}
use Rattle.message_tables.specs.Tlvs.{has_twice, twice_behind}
use Rattle.message_tables.specs.View.{tlv_view}
use Rattle.message_tables.proofs.tlvs.has_twice.Given as goal

abbrev pub invariant-loop-index : goal.invariant-loop-index
invariant-loop-index l = has_twice (map tlv_view l.tlvs) ≡ twice_behind (map tlv_view (take l.index l.tlvs)) (map tlv_view (drop l.index l.tlvs))
