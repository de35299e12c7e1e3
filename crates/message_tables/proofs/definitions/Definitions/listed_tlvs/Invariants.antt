use Rattle.std.proofs.Common.{map, option_map}
use Rattle.message_tables.specs.Tlvs.{tlv_of}
use Rattle.message_tables.specs.View.{names_in, tlv_view}
use Rattle.message_tables.proofs.Continued.{HasRead}
use Rattle.message_tables.proofs.definitions.Definitions.listed_tlvs.Given as goal

abbrev pub invariant-loop-object : goal.invariant-loop-object
invariant-loop-object l =
    HasRead (tlv_of (names_in l.self)) l.objects l.object-index (option_map (λ v. map tlv_view v.items) l.tlvs)
