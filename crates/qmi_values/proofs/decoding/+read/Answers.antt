use Rattle.std.proofs.Common.{◌≡◌, inl, [], length, map, take, refl, ◌∙◌, ap, arith, length-append}
use Rattle.std.proofs.lemmas.List.{length-map, map_push, take_all}
use Rattle.std.proofs.lemmas.Result.{err_from_is_err_and}
use Rattle.qmi_shapes.specs.Form.{unsigned, signed, string, array, no_fields}
use Rattle.qmi_shapes.specs.View.{shape_view, fields_view}
use Rattle.qmi_shapes.proofs.Views.{view-U, view-I, view-Str}
use Rattle.qmi_values.specs.View.{val_view, vals_view}
use Rattle.qmi_values.specs.declared.val.Val.{Val}
use Rattle.qmi_values.specs.Spelling.{EachSpells, Spells, FieldsSpell}
use Rattle.qmi_values.specs.Breaking.{fixed, IsText, IsListCount}
use Rattle.qmi_values.proofs.Readings.{Takes-none, StopsIn-first, list_more, list_taken, list_stops, fields_taken, field_part, field_more, field_stops}
use Rattle.qmi_values.proofs.decoding.+read.Goals as goal

pub read-returns-in_err-unsigned-in-U-clause-err : goal.read-returns-in_err-unsigned-in-U-clause-err
read-returns-in_err-unsigned-in-U-clause-err t c = let p = err_from_is_err_and c.from_residual.result c.from_residual.ensures.1 in
    let first = StopsIn-first (λ next. next ≡ fixed c.in-U.size) (unsigned c.in-U.size) (λ next is. (is, refl)) c.args.reader.now c.in_err-unsigned-in-U.field-0.0 c.in_err-unsigned-in-U.ensures.err in
    rw (p.1, p.2, c.in-U.is, view-U c.in-U.size) first

pub read_fields-loop-field-init : goal.read_fields-loop-field-init
read_fields-loop-field-init t c = rw c.new-vals.ensures.items (Takes-none (FieldsSpell no_fields []) refl c.args.reader.now)

pub read_fields-read-requires : goal.read_fields-read-requires
read_fields-read-requires t c = let part = field_part c.as_slice-field-items.result.now c.loop-field.field-index c.field-item.result (fields_view c.args.fields.now) c.loop-field-test.true c.field-item.is c.as_slice-field-items.ensures c.requires in
    (omega (arith, part.0, c.decreases), part.1)

pub read_fields-returns-in_err-read-clause-err : goal.read_fields-returns-in_err-read-clause-err
read_fields-returns-in_err-read-clause-err t c =
    let p = err_from_is_err_and c.from_residual.result c.from_residual.ensures.1 in
    rw (p.1, p.2)
    (field_stops c.as_slice-field-items.result.now c.loop-field.field-index c.field-item.result (fields_view c.args.fields.now) (map val_view c.loop-field.vals.items) c.args.reader.now c.loop-field.reader c.in_err-read.field-0.0 c.loop-field-test.true c.field-item.is c.as_slice-field-items.ensures c.loop-field.invariant c.in_err-read.ensures.err)

pub read_fields-loop-field-preserved : goal.read_fields-loop-field-preserved
read_fields-loop-field-preserved t c = rw (c.in_ok-push.ensures.items, map_push)
    (field_more c.as_slice-field-items.result.now c.loop-field.field-index c.field-item.result (map val_view c.loop-field.vals.items) (val_view c.in_ok-read.field-0) c.args.reader.now c.loop-field.reader c.read.new.reader
    c.loop-field-test.true c.field-item.is c.loop-field.invariant c.in_ok-read.ensures.ok)

pub read_fields-returns-clause-ok : goal.read_fields-returns-clause-ok
read_fields-returns-clause-ok t c = let whole : take c.loop-field.field-index c.as_slice-field-items.result.now ≡ c.as_slice-field-items.result.now = take_all c.loop-field.field-index c.as_slice-field-items.result.now c.loop-field-test.false in
    let takes = rw (whole, c.as_slice-field-items.ensures) at c.loop-field.invariant in
    fields_taken (fields_view c.args.fields.now) (map val_view c.loop-field.vals.items) (vals_view c.from.result) c.args.reader.now c.loop-field.reader takes c.from.ensures

pub read_list-returns-in_err-count-clause-err : goal.read_list-returns-in_err-count-clause-err
read_list-returns-in_err-count-clause-err t c = let p = err_from_is_err_and c.from_residual.result c.from_residual.ensures.1 in
    rw (p.1, p.2)
    (StopsIn-first (IsListCount c.args.prefix) (array c.args.prefix (shape_view c.args.element.now)) (λ next is. inl (is, refl)) c.args.reader.now c.in_err-count.field-0.0 c.in_err-count.ensures.err)

pub read_list-loop-init : goal.read_list-loop-init
read_list-loop-init t c = (rw c.new-vals.ensures.items (Takes-none (EachSpells (Spells (shape_view c.args.element.now)) []) refl c.count.new.self), ap length c.new-vals.ensures.items)

pub read_list-returns-in_err-read-clause-err : goal.read_list-returns-in_err-read-clause-err
read_list-returns-in_err-read-clause-err t c = let p = err_from_is_err_and c.from_residual-in_err-read.result c.from_residual-in_err-read.ensures.1 in
    rw (p.1, p.2)
    (list_stops c.args.prefix (shape_view c.args.element.now) c.in_ok-count.count (map val_view c.loop.vals.items) c.args.reader.now c.count.new.self c.loop.reader c.in_err-read.field-0.0 c.in_ok-count.ensures.ok c.loop.invariant.0
    (omega (arith, length-map c.loop.vals.items val_view, c.loop.invariant.1, c.loop-test.true)) c.in_err-read.ensures.err)

pub read_list-loop-preserved : goal.read_list-loop-preserved
read_list-loop-preserved t c = (
  rw (c.in_ok-push.ensures.items, map_push)
      (list_more (shape_view c.args.element.now) (map val_view c.loop.vals.items) (val_view c.in_ok-read.field-0) c.count.new.self c.loop.reader c.read.new.reader c.loop.invariant.0 c.in_ok-read.ensures.ok),
  ap length c.in_ok-push.ensures.items ∙ omega (arith, length-append {A = Val}, c.loop.invariant.1),
)

pub read_list-returns-clause-ok : goal.read_list-returns-clause-ok
read_list-returns-clause-ok t c = list_taken c.args.prefix (shape_view c.args.element.now) c.in_ok-count.count (map val_view c.loop.vals.items) (vals_view c.from.result) c.args.reader.now c.count.new.self c.loop.reader c.in_ok-count.ensures.ok c.loop.invariant.0
    (omega (arith, length-map c.loop.vals.items val_view, c.loop.invariant.1, c.loop-test.false, c.loop.auto.counter-end)) c.from.ensures

pub read-returns-in_err-signed-in-I-clause-err : goal.read-returns-in_err-signed-in-I-clause-err
read-returns-in_err-signed-in-I-clause-err t c =
    let p = err_from_is_err_and c.from_residual-in_err-signed-in-I.result c.from_residual-in_err-signed-in-I.ensures.1 in
    let first = StopsIn-first (λ next. next ≡ fixed c.in-I.size) (signed c.in-I.size) (λ next is. (is, refl)) c.args.reader.now c.in_err-signed-in-I.field-0.0 c.in_err-signed-in-I.ensures.err in
    rw (p.1, p.2, c.in-I.is, view-I c.in-I.size) first

pub read-returns-in_err-octets-in-Str-clause-err : goal.read-returns-in_err-octets-in-Str-clause-err
read-returns-in_err-octets-in-Str-clause-err t c =
    let p = err_from_is_err_and c.from_residual-in_err-octets-in-Str.result c.from_residual-in_err-octets-in-Str.ensures.1 in
    let first = StopsIn-first (IsText c.in-Str.prefix) (string c.in-Str.prefix) (λ next is. (is, refl)) c.args.reader.now c.in_err-octets-in-Str.field-0.0 c.in_err-octets-in-Str.ensures.err in
    rw (p.1, p.2, c.in-Str.is, view-Str c.in-Str.prefix) first
