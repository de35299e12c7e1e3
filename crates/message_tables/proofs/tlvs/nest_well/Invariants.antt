use Rattle.std.proofs.Common.{◌≡◌, drop, map}
use Rattle.message_tables.specs.Tlvs.{nest_well}
use Rattle.message_tables.specs.View.{tlv_view}
use Rattle.message_tables.proofs.tlvs.nest_well.Given as goal

abbrev pub invariant-loop-tlv : goal.invariant-loop-tlv
invariant-loop-tlv l = nest_well (map tlv_view l.tlvs) ≡ nest_well (map tlv_view (drop l.tlv-index l.tlvs))
