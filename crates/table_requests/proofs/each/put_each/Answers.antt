use Rattle.std.proofs.Common.{◌-◌, List, length, map, get_or, refl, sym, ap, ◌∙◌, arith}
use Rattle.serde_json.specs.View.{members_view}
use Rattle.tlv_codec.specs.declared.tlv.Tlv.{Tlv}
use Rattle.message_tables.specs.View.{tlv_view}
use Rattle.dissect.specs.Places.{StandsWithin, entry_at}
use Rattle.table_requests.specs.Tlvs.{with_tlv}
use Rattle.table_requests.proofs.Backwards.{holds_at, none_yet, one_more, all_done}
use Rattle.table_requests.proofs.each.put_each.Goals as goal

pub loop-behind-init : goal.loop-behind-init
loop-behind-init g c = sym (none_yet (g.S.Shows.showing c.args.shows.now) c.args.answer (map tlv_view c.args.forms.now) c.args.bytes.now c.args.list.now (members_view c.args.members.now.entries))

pub put_at-requires-clause-within : goal.put_at-requires-clause-within
put_at-requires-clause-within g c =
    holds_at (StandsWithin c.args.bytes.now) c.args.list.now (length c.args.list.now - 1 - c.loop-behind.behind) (record { kind = 0; start = 0; end = 0 }) c.requires.within (omega (arith, c.loop-behind-test.true))

pub loop-behind-preserved : goal.loop-behind-preserved
loop-behind-preserved g c =
    let showing = g.S.Shows.showing c.args.shows.now in
    let forms = map tlv_view c.args.forms.now in
    let list : List Tlv = c.args.list.now in
    let behind = c.loop-behind.behind in
    let none : Tlv = record { kind = 0; start = 0; end = 0 } in
    let more = one_more showing c.args.answer forms c.args.bytes.now list (members_view c.args.members.now.entries) behind (length list - 1 - behind) none refl (omega (arith, c.loop-behind-test.true)) in
    c.in_ok-put_at.ensures ∙ ap (with_tlv showing c.args.answer forms (entry_at c.args.bytes.now (get_or list (length list - 1 - behind) none))) c.loop-behind.invariant ∙ sym more

pub returns : goal.returns
returns g c =
    c.loop-behind.invariant
    ∙ all_done (g.S.Shows.showing c.args.shows.now) c.args.answer (map tlv_view c.args.forms.now) c.args.bytes.now c.args.list.now (members_view c.args.members.now.entries) c.loop-behind.behind (omega (arith, c.loop-behind-test.false))
