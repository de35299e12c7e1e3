use Rattle.std.proofs.Common.{◌≡◌, drop}
use Rattle.tlv_codec.specs.Reading.{first_tlv}
use Rattle.tlv_codec.proofs.look.find.Given as goal

abbrev pub invariant-loop-tlv : goal.invariant-loop-tlv
invariant-loop-tlv l = first_tlv l.kind l.tlvs ≡ first_tlv l.kind (drop l.tlv-index l.tlv-items)
