use Rattle.std.proofs.Common.{map, length, ◌<◌, arith}
use Rattle.std.proofs.lemmas.Result.{err_from_is_err_and}
use Rattle.mbim_fields.specs.View.{layout_of, field_view}
use Rattle.mbim_fields.specs.declared.layout.FieldShape.{out-FieldShape}
use Rattle.mbim_fields.proofs.Views.{view-Each, view-shape}
use Rattle.mbim_fields.proofs.Writings.{canon-uneven, FieldsLaid-next, FieldsLaid-misfit}
use Rattle.mbim_fields.proofs.encoding.+lay.Goals as goal

pub structure_bytes-returns-then-fields-values-clause-err : goal.structure_bytes-returns-then-fields-values-clause-err
structure_bytes-returns-then-fields-values-clause-err t c = canon-uneven c.args.shape.now c.args.values.now c.if-fields-values.true

pub structure_bytes-loop-index-preserved : goal.structure_bytes-loop-index-preserved
structure_bytes-loop-index-preserved t c =
    let fields = (out-FieldShape c.args.shape.now).0.now in
    let in_values : c.loop-index.index < length c.args.values.now = omega (arith, c.loop-index-test.true, c.if-fields-values.false) in
    FieldsLaid-next (layout_of (map field_view fields)) fields c.args.values.now c.loop-index.index c.in-Some.begin _ c.index-values-index.result c.loop-index.laid c.lay_form.new.laid
    c.loop-index-test.true in_values c.index-values-index.is c.loop-index.invariant c.in_ok-lay_form.ensures.ok

pub structure_bytes-returns-in_err-lay_form-clause-err : goal.structure_bytes-returns-in_err-lay_form-clause-err
structure_bytes-returns-in_err-lay_form-clause-err t c =
    let fields = (out-FieldShape c.args.shape.now).0.now in
    let in_values : c.loop-index.index < length c.args.values.now = omega (arith, c.loop-index-test.true, c.if-fields-values.false) in
    let p = err_from_is_err_and c.from_residual-in_err-lay_form.result c.from_residual-in_err-lay_form.ensures.1 in
    rw (p.1, p.2, view-shape c.args.shape.now)
    (FieldsLaid-misfit (layout_of (map field_view fields)) fields c.args.values.now c.loop-index.index c.in-Some.begin _ c.index-values-index.result c.loop-index.laid c.in_err-lay_form.field-0.0
    c.loop-index-test.true in_values c.index-values-index.is c.in-Some.ensures.some c.loop-index.invariant c.in_err-lay_form.ensures.err)

pub lay_form-returns-in-Some-clause-err : goal.lay_form-returns-in-Some-clause-err
lay_form-returns-in-Some-clause-err t c = rw (c.in-Each.is, view-Each c.in-Each.place c.in-Each.item, ← c.count_in.ensures, ← c.in-Some.ensures, c.as_slice.ensures) c.lay_each.ensures.err
