use Rattle.std.proofs.Common.{◌≡◌, ◌-◌, length, map, drop}
use Rattle.serde_json.specs.View.{members_view}
use Rattle.message_tables.specs.View.{tlv_view}
use Rattle.dissect.specs.Places.{entry_at}
use Rattle.table_requests.specs.Tlvs.{with_tlvs}
use Rattle.table_requests.proofs.each.put_each.Given as goal

-- the TLVs behind are there
abbrev pub invariant-loop-behind : goal.invariant-loop-behind
invariant-loop-behind g l =
    members_view l.members.entries
    ≡ with_tlvs (g.S.Shows.showing l.shows) l.answer (map tlv_view l.forms) (map (entry_at l.bytes) (drop (length l.list - l.behind) l.list)) (members_view l.initial.members.entries)
