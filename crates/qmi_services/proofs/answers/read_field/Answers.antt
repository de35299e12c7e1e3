use Rattle.std.proofs.Common.{◌∙◌, sym, ap, map, arith}
use Rattle.std.proofs.lemmas.List.{map_push}
use Rattle.qmi_shapes.specs.View.{shape_view}
use Rattle.qmi_values.specs.View.{val_view}
use Rattle.tlv_values.proofs.Readings.{read-true}
use Rattle.qmi_services.specs.Answers.{field_view}
use Rattle.qmi_services.specs.View.{output_view, tlv_view}
use Rattle.qmi_services.proofs.Answering.{Says-read, IsUnread-read, value-bytes}
use Rattle.qmi_services.proofs.answers.read_field.Goals as goal

pub returns-clause-ok : goal.returns-clause-ok
returns-clause-ok c =
    let value = rw c.in-Some-2.is at c.in_ok-val.ensures in
    let bytes = value-bytes (tlv_view c.tlv.result.now).kind c.args.tlvs.now c.in-Some.value.now (λ k. omega (arith, c.type_inv.tlvs k)) c.in-Some.ensures in
    let spelled = read-true (shape_view c.in_ok-shape.shape) (val_view c.in-Some-2.val) c.in-Some.value.now bytes (sym value) in (
      _,
      ap (map field_view) c.in_ok-push.ensures.items ∙ map_push field_view c.args.fields.now.items _,
      Says-read (output_view c.args.output.now) (tlv_view c.tlv.result.now) c.args.tlvs.now c.in-Some.value.now _ _ _ c.tlv.ensures c.in-Some.ensures c.in_ok-name.ensures c.in_ok-shape.ensures spelled,
    )

pub returns-in_default-2-clause-err : goal.returns-in_default-2-clause-err
returns-in_default-2-clause-err c =
    let none = rw c.in_default-2.is at c.in_ok-val.ensures in
    IsUnread-read (output_view c.args.output.now) (tlv_view c.tlv.result.now) c.args.tlvs.now c.in-Some.value.now _ c.tlv.ensures c.in-Some.ensures c.in_ok-shape.ensures c.requires none
