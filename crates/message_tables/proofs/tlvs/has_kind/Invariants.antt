use Rattle.std.proofs.Common.{◌≡◌, ◌==◌, drop, map}
use Rattle.std.specs.List.{list_any}
use Rattle.message_tables.specs.View.{tlv_view}
use Rattle.message_tables.proofs.tlvs.has_kind.Given as goal

abbrev pub invariant-loop-tlv : goal.invariant-loop-tlv
invariant-loop-tlv l =
    list_any (λ tlv. tlv.kind == l.kind) (map tlv_view l.tlvs) ≡ list_any (λ tlv. tlv.kind == l.kind) (map tlv_view (drop l.tlv-index l.tlvs))
