use Rattle.std.proofs.Common.{◌++◌, ◌∙◌, ap, sym, subst, map, List, Option}
use Rattle.std.specs.List.{AllByRecursion, flat_map}
use Rattle.message_tables.specs.View.{tlv_view}
use Rattle.tlv_codec.specs.declared.tlv.Tlv.{Tlv}
use Rattle.tlv_codec.specs.Tlv.{Entry}
use Rattle.dissect.specs.Places.{StandsWithin, entry_at}
use Rattle.dissect.specs.Qmi.{entry_lines, tlv_lines}
use Rattle.dissect.proofs.Places.{hold_all}
use Rattle.dissect.proofs.qmi_message.push_tlvs.Goals as goal

pub push_each-requires-clause-within : goal.push_each-requires-clause-within
push_each-requires-clause-within c =
    subst (AllByRecursion (StandsWithin c.args.bytes.now)) (sym c.as_slice.ensures) (hold_all c.args.bytes.now c.in-Ok.list c.in-Ok.ensures.0 c.in-Ok.ensures.1).within

pub returns : goal.returns
returns c =
    let bytes = c.args.bytes.now in
    let forms = map tlv_view c.args.forms.now in
    let are = c.in-Ok.ensures.1 in
    c.in_ok-push_each.ensures
    ∙ ap (λ (l : List Tlv). c.args.text.now ++ flat_map (tlv_lines c.args.kind forms) (map (entry_at bytes) l)) c.as_slice.ensures
    ∙ ap (λ (l : List Entry). c.args.text.now ++ flat_map (tlv_lines c.args.kind forms) l) (hold_all bytes c.in-Ok.list c.in-Ok.ensures.0 are).are
    ∙ ap (λ (o : Option (List Entry)). c.args.text.now ++ entry_lines c.args.kind forms bytes o) (sym are.read)
