use Rattle.std.proofs.Common.{◌≡◌, ◌-◌, ◌∙◌, arith, rules, length, take, drop, length-drop, ap, not, is_lt, is_le}
use Rattle.std.proofs.lemmas.List.{take_all}
use Rattle.std.proofs.lemmas.List.Sorted.{IsPartitionPoint-from_clause}
use Rattle.sms_pdu.specs.declared.entries.Entry.{Entry}
use Rattle.sms_pdu.specs.Entries.{group_order}
use Rattle.sms_pdu.proofs.Groups.{less_first, none_of, not_greater_first, run_is}
use Rattle.sms_pdu.proofs.entries.run_of.Goals as goal

pub returns-then-is_none : goal.returns-then-is_none
returns-then-is_none c = none_of c.args.pdu.now c.args.entries.now (c.is_none.ensures ∙ ap not c.if-is_none.true)

pub returns : goal.returns
returns c =
    let entries = c.args.entries.now in
    let pdu = c.args.pdu.now in
    let start = c.partition_point-start.result in
    let count = c.partition_point-count.result in
    let behind = take (length entries - start) (drop start entries) in
    let size = length-drop start entries in
    let is_behind : behind ≡ drop start entries = take_all (length entries - start) (drop start entries) (omega (arith, size)) in
    let less = IsPartitionPoint-from_clause (λ (entry : Entry). is_lt (group_order entry.pdu.now pdu)) entries start c.partition_point-start.ensures.partitioned (less_first entries c.requires pdu) (λ a r q k. search rules) in
    let most = IsPartitionPoint-from_clause (λ (entry : Entry). is_le (group_order entry.pdu.now pdu)) behind count c.partition_point-count.ensures.partitioned (not_greater_first entries c.requires pdu start behind is_behind) (λ a r q k. search rules) in
    run_is entries c.requires pdu start behind is_behind (c.is_none.ensures ∙ ap not c.if-is_none.false) c.partition_point-start.ensures.bound less count c.partition_point-count.ensures.bound most
