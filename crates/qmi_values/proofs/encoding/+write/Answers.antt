use Rattle.std.proofs.Common.{◌≡◌, ◌<◌, ℕ, inr, Some, List, [], length, take, refl, ◌∙◌, ap, arith}
use Rattle.std.proofs.lemmas.List.{take_all}
use Rattle.std.proofs.lemmas.Result.{err_from_is_err_and}
use Rattle.qmi_shapes.specs.Form.{no_fields}
use Rattle.qmi_shapes.specs.View.{shape_view, fields_view}
use Rattle.qmi_shapes.proofs.Views.{view-Str}
use Rattle.qmi_values.specs.Value.{text}
use Rattle.qmi_values.specs.View.{val_view, vals_view}
use Rattle.qmi_values.specs.Spelling.{EachSpells, Spells, FieldsSpell}
use Rattle.qmi_values.proofs.Readings.{field_part}
use Rattle.qmi_values.proofs.Writings.{Adds-none, each_more, list_added, count_misfits, element_misfits, fields_add, fields_added, other_number, field_misfits, text_of}
use Rattle.qmi_values.proofs.encoding.+write.Goals as goal

pub write-returns-in-Some-as_octets-clause-err : goal.write-returns-in-Some-as_octets-clause-err
write-returns-in-Some-as_octets-clause-err t c =
    let value : val_view c.args.val.now ≡ text c.as_slice.result.now = text_of (val_view c.args.val.now) c.as_slice.result.now (ap (λ (l : List ℕ). Some l) c.as_slice.ensures ∙ c.in-Some-as_octets.ensures) in
    rw (c.in-Str.is, view-Str c.in-Str.prefix, value) c.write_text.ensures.err

pub write_fields-returns-then-fields-vals-clause-err : goal.write_fields-returns-then-fields-vals-clause-err
write_fields-returns-then-fields-vals-clause-err t c =
    other_number c.as_slice-fields.result.now c.as_slice-vals.result.now (fields_view c.args.fields.now) (vals_view c.args.vals.now) c.as_slice-fields.ensures c.as_slice-vals.ensures c.if-fields-vals.true

pub write_fields-loop-index-init : goal.write_fields-loop-index-init
write_fields-loop-index-init t c = Adds-none (FieldsSpell no_fields []) refl c.args.out.now

pub write_fields-write-requires : goal.write_fields-write-requires
write_fields-write-requires t c =
    let part = field_part c.as_slice-fields.result.now c.loop-index.index c.index-fields-index.result (fields_view c.args.fields.now) c.loop-index-test.true c.index-fields-index.is c.as_slice-fields.ensures c.requires in
    (omega (arith, part.0, c.decreases), inr part.1)

pub write_fields-returns-in_err-write-clause-err : goal.write_fields-returns-in_err-write-clause-err
write_fields-returns-in_err-write-clause-err t c =
    let p = err_from_is_err_and c.from_residual.result c.from_residual.ensures.1 in
    let in_vals : c.loop-index.index < length c.as_slice-vals.result.now = omega (arith, c.loop-index-test.true, c.if-fields-vals.false) in
    rw (p.1, p.2)
    (field_misfits c.as_slice-fields.result.now c.as_slice-vals.result.now c.loop-index.index c.index-fields-index.result c.index-vals-index.result (fields_view c.args.fields.now) (vals_view c.args.vals.now) c.in_err-write.field-0.0
    c.loop-index-test.true in_vals c.index-fields-index.is c.index-vals-index.is c.as_slice-fields.ensures c.as_slice-vals.ensures c.in_err-write.ensures.err)

pub write_fields-loop-index-preserved : goal.write_fields-loop-index-preserved
write_fields-loop-index-preserved t c =
    let in_vals : c.loop-index.index < length c.as_slice-vals.result.now = omega (arith, c.loop-index-test.true, c.if-fields-vals.false) in
    fields_add c.as_slice-fields.result.now c.as_slice-vals.result.now c.loop-index.index c.index-fields-index.result c.index-vals-index.result c.args.out.now c.loop-index.out c.write.new.out
    c.loop-index-test.true in_vals c.index-fields-index.is c.index-vals-index.is c.loop-index.invariant c.in_ok-write.ensures.ok

pub write_fields-returns-clause-ok : goal.write_fields-returns-clause-ok
write_fields-returns-clause-ok t c =
    let fields : take c.loop-index.index c.as_slice-fields.result.now ≡ c.as_slice-fields.result.now = take_all c.loop-index.index c.as_slice-fields.result.now c.loop-index-test.false in
    let vals : take c.loop-index.index c.as_slice-vals.result.now ≡ c.as_slice-vals.result.now =
    take_all c.loop-index.index c.as_slice-vals.result.now (omega (arith, c.loop-index-test.false, c.if-fields-vals.false)) in
    let adds = rw (fields, vals) at c.loop-index.invariant in
    fields_added c.as_slice-fields.result.now c.as_slice-vals.result.now (fields_view c.args.fields.now) (vals_view c.args.vals.now) c.args.out.now c.loop-index.out c.as_slice-fields.ensures c.as_slice-vals.ensures adds

pub write_list-returns-in_err-write_count-clause-err : goal.write_list-returns-in_err-write_count-clause-err
write_list-returns-in_err-write_count-clause-err t c =
    let p = err_from_is_err_and c.from_residual.result c.from_residual.ensures.1 in
    rw (p.1, p.2)
    (count_misfits c.args.prefix (shape_view c.args.element.now) c.as_slice-vals.result.now (vals_view c.args.vals.now) c.in_err-write_count.field-0.0 c.as_slice-vals.ensures c.in_err-write_count.ensures.err)

pub write_list-loop-val-init : goal.write_list-loop-val-init
write_list-loop-val-init t c = Adds-none (EachSpells (Spells (shape_view c.args.element.now)) []) refl c.write_count.new.out

pub write_list-returns-in_err-write-clause-err : goal.write_list-returns-in_err-write-clause-err
write_list-returns-in_err-write-clause-err t c =
    let p = err_from_is_err_and c.from_residual-in_err-write.result c.from_residual-in_err-write.ensures.1 in
    rw (p.1, p.2)
    (element_misfits c.args.prefix (shape_view c.args.element.now) c.as_slice-vals.result.now c.loop-val.val-index c.val-item.result (vals_view c.args.vals.now) c.in_err-write.field-0.0 c.loop-val-test.true c.val-item.is
    c.as_slice-vals.ensures c.in_err-write.ensures.err)

pub write_list-loop-val-preserved : goal.write_list-loop-val-preserved
write_list-loop-val-preserved t c =
    each_more (shape_view c.args.element.now) c.as_slice-vals.result.now c.loop-val.val-index c.val-item.result c.write_count.new.out c.loop-val.out c.write.new.out c.loop-val-test.true c.val-item.is c.loop-val.invariant c.in_ok-write.ensures.ok

pub write_list-returns-clause-ok : goal.write_list-returns-clause-ok
write_list-returns-clause-ok t c =
    let whole : take c.loop-val.val-index c.as_slice-vals.result.now ≡ c.as_slice-vals.result.now = take_all c.loop-val.val-index c.as_slice-vals.result.now c.loop-val-test.false in
    let adds = rw whole at c.loop-val.invariant in
    list_added c.args.prefix (shape_view c.args.element.now) c.as_slice-vals.result.now (vals_view c.args.vals.now) c.args.out.now c.write_count.new.out c.loop-val.out c.as_slice-vals.ensures c.in_ok-write_count.ensures.ok adds
