use Rattle.std.proofs.Common.{List, Option, map, sym, ap, subst, ◌∙◌}
use Rattle.std.specs.List.{AllByRecursion}
use Rattle.serde_json.specs.View.{members_view}
use Rattle.message_tables.specs.View.{tlv_view}
use Rattle.tlv_codec.specs.declared.tlv.Tlv.{Tlv}
use Rattle.tlv_codec.specs.Tlv.{Entry}
use Rattle.dissect.specs.Places.{StandsWithin, entry_at}
use Rattle.dissect.proofs.Places.{hold_all}
use Rattle.table_requests.specs.Tlvs.{with_tlvs, with_all}
use Rattle.table_requests.proofs.answer_tlvs.put_tlvs.Goals as goal

pub put_each-requires-clause-within : goal.put_each-requires-clause-within
put_each-requires-clause-within g c =
    subst (AllByRecursion (StandsWithin c.args.bytes.now)) (sym c.as_slice.ensures) (hold_all c.args.bytes.now c.in-Ok.list c.in-Ok.ensures.0 c.in-Ok.ensures.1).within

pub returns : goal.returns
returns g c =
    let showing = g.S.Shows.showing c.args.shows.now in
    let bytes = c.args.bytes.now in
    let forms = map tlv_view c.args.forms.now in
    let before = members_view c.args.members.now.entries in
    let are = c.in-Ok.ensures.1 in
    c.in_ok-put_each.ensures
    ∙ ap (λ (l : List Tlv). with_tlvs showing c.args.answer forms (map (entry_at bytes) l) before) c.as_slice.ensures
    ∙ ap (λ (l : List Entry). with_tlvs showing c.args.answer forms l before) (hold_all bytes c.in-Ok.list c.in-Ok.ensures.0 are).are
    ∙ ap (λ (o : Option (List Entry)). with_all showing c.args.answer forms bytes o before) (sym are.read)
