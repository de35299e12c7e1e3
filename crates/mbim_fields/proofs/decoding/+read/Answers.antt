use Rattle.std.proofs.Common.{List, [], map, length, sym, ap, ◌∙◌, Ok}
use Rattle.std.proofs.lemmas.List.{map_push, drop_all}
use Rattle.std.proofs.lemmas.Result.{err_from_is_err_and}
use Rattle.mbim_fields.specs.Layout.{width}
use Rattle.mbim_fields.specs.Value.{Value, Values, elements, members, values_of, count_in}
use Rattle.mbim_fields.specs.Reading.{Read, and_then, read_item, read_each}
use Rattle.mbim_fields.specs.Footprint.{item_footprint, each_footprint}
use Rattle.mbim_fields.specs.View.{item_view, shape_view, value_view, val_view}
use Rattle.mbim_fields.specs.declared.layout.FieldShape.{out-FieldShape}
use Rattle.mbim_fields.proofs.Readings.{EachSoFar-next, EachSoFar-ends, EachSoFar-all, FieldsSoFar-all, list_left, list_ends, list_of-values_of, values_of-list_of}
use Rattle.mbim_fields.proofs.FieldsRead.{FieldsRead-next, FieldsRead-ends}
use Rattle.mbim_fields.proofs.Views.{view-Each, view-Structure, view-List, view-Members}
use Rattle.mbim_fields.proofs.decoding.+read.Goals as goal

pub read_each-loop-preserved : goal.read_each-loop-preserved
read_each-loop-preserved t c =
    rw (c.in_ok-push.ensures, map_push, c.width-place.ensures)
    (EachSoFar-next (read_item (item_view c.args.item.now) c.args.whole.now c.args.base) (item_footprint (item_view c.args.item.now) c.args.whole.now c.args.base) (width (item_view c.args.item.now)) c.args.count c.args.at (length c.args.whole.now)
    (map value_view c.loop.values.items) c.loop.place c.loop.counter _ _ _ (value_view c.in_ok-value.value) c.loop.invariant c.loop-test.true c.in_ok-value.ensures.ok c.in_ok-value.ensures.left)

pub read_each-returns-in_err-value-clause-err : goal.read_each-returns-in_err-value-clause-err
read_each-returns-in_err-value-clause-err t c =
    let p = err_from_is_err_and c.from_residual.result c.from_residual.ensures.1 in
    rw (p.1, p.2)
    (EachSoFar-ends (read_item (item_view c.args.item.now) c.args.whole.now c.args.base) (item_footprint (item_view c.args.item.now) c.args.whole.now c.args.base) (width (item_view c.args.item.now)) c.args.count c.args.at (length c.args.whole.now)
    (map value_view c.loop.values.items) c.loop.place c.loop.counter _ _ c.in_err-value.field-0.0 c.loop.invariant c.loop-test.true c.in_err-value.ensures.err)

pub read_each-returns-clause-ok : goal.read_each-returns-clause-ok
read_each-returns-clause-ok t c =
    rw (c.from.ensures, list_of-values_of)
    (EachSoFar-all (read_item (item_view c.args.item.now) c.args.whole.now c.args.base) (item_footprint (item_view c.args.item.now) c.args.whole.now c.args.base) (width (item_view c.args.item.now)) c.args.count c.args.at (length c.args.whole.now)
    (map value_view c.loop.values.items) c.loop.place c.loop.counter _ _ c.loop.invariant c.loop-test.false).0

pub read_each-returns-clause-left : goal.read_each-returns-clause-left
read_each-returns-clause-left t c =
    (EachSoFar-all (read_item (item_view c.args.item.now) c.args.whole.now c.args.base) (item_footprint (item_view c.args.item.now) c.args.whole.now c.args.base) (width (item_view c.args.item.now)) c.args.count c.args.at (length c.args.whole.now)
    (map value_view c.loop.values.items) c.loop.place c.loop.counter _ _ c.loop.invariant c.loop-test.false).1

pub read_fields-loop-form-preserved : goal.read_fields-loop-form-preserved
read_fields-loop-form-preserved t c =
    let here = rw c.deref.ensures.value at c.in-Some.ensures.some in
    let is = rw c.deref-in-loop-form.ensures.value at c.in_ok-value.ensures.ok in
    let takes = rw c.deref-in-loop-form.ensures.value at c.in_ok-value.ensures.left in
    rw (c.in_ok-push.ensures, map_push)
    (FieldsRead-next (shape_view c.args.shape.now) (out-FieldShape c.args.shape.now).0.now c.loop-form.form-index _ c.args.whole.now c.args.base (map value_view c.loop-form.values.items) c.loop-form.at c.in-Some.end c.args.memory.now.left
    c.loop-form.memory.left c.read_form.new.memory.left (value_view c.in_ok-value.value) c.loop-form-test.true c.loop-form.invariant here is takes)

pub read_fields-returns-in_err-value-clause-err : goal.read_fields-returns-in_err-value-clause-err
read_fields-returns-in_err-value-clause-err t c =
    let p = err_from_is_err_and c.from_residual.result c.from_residual.ensures.1 in
    let here = rw c.deref.ensures.value at c.in-Some.ensures.some in
    let ends = rw c.deref-in-loop-form.ensures.value at c.in_err-value.ensures.err in
    rw (p.1, p.2)
    (FieldsRead-ends (shape_view c.args.shape.now) (out-FieldShape c.args.shape.now).0.now c.loop-form.form-index _ c.args.whole.now c.args.base (map value_view c.loop-form.values.items) c.loop-form.at c.in-Some.end c.args.memory.now.left
    c.loop-form.memory.left c.in_err-value.field-0.0 c.loop-form-test.true c.loop-form.invariant here ends)

pub read_fields-returns-clause-ok : goal.read_fields-returns-clause-ok
read_fields-returns-clause-ok t c =
    let none = drop_all c.loop-form.form-index (out-FieldShape c.args.shape.now).0.now c.loop-form-test.false in
    let so = rw none at c.loop-form.invariant in
    rw (c.from.ensures, list_of-values_of) (FieldsSoFar-all _ _ _ _ _ _ _ so).0

pub read_fields-returns-clause-left : goal.read_fields-returns-clause-left
read_fields-returns-clause-left t c =
    let none = drop_all c.loop-form.form-index (out-FieldShape c.args.shape.now).0.now c.loop-form-test.false in
    let so = rw none at c.loop-form.invariant in
    (FieldsSoFar-all _ _ _ _ _ _ _ so).1

pub read_form-returns-in_ok-read_each-in-Each-clause-ok :
    goal.read_form-returns-in_ok-read_each-in-Each-clause-ok
read_form-returns-in_ok-read_each-in-Each-clause-ok t c =
    let val = c.in_ok-read_each-in-Each.field-0 in
    rw (c.in-Each.is, view-Each c.in-Each.place c.in-Each.item)
    (ap (λ (r : Read (List Value)). and_then r (λ values. Ok (elements (values_of values)))) (rw c.count_in-count.ensures at c.in_ok-read_each-in-Each.ensures.ok)
    ∙ ap (λ (v : Values). Ok (elements v)) (values_of-list_of (val_view val)) ∙ ap (λ (v : Value). Ok v) (sym (view-List val)))

pub read_item-returns-in_ok-val-in-Structure-clause-ok :
    goal.read_item-returns-in_ok-val-in-Structure-clause-ok
read_item-returns-in_ok-val-in-Structure-clause-ok t c =
    let val = c.in_ok-val-in-Structure.val in
    rw (c.in-Structure.is, view-Structure c.in-Structure.shape, c.in_ok-part-in-Structure.ensures.ok)
    (ap (λ (r : Read (List Value)). and_then r (λ values. Ok (members (values_of values)))) c.in_ok-val-in-Structure.ensures.ok
    ∙ ap (λ (v : Values). Ok (members v)) (values_of-list_of (val_view val)) ∙ ap (λ (v : Value). Ok v) (sym (view-Members val)))

pub read_form-returns-in_ok-read_each-in-Each-clause-left :
    goal.read_form-returns-in_ok-read_each-in-Each-clause-left
read_form-returns-in_ok-read_each-in-Each-clause-left t c =
    let item = item_view c.in-Each.item in
    let footprint = item_footprint item c.args.whole.now c.args.base in
    let count = count_in (map value_view c.args.before.now) c.in-Each.place in
    let left = rw c.count_in-count.ensures at c.in_ok-read_each-in-Each.ensures.left in
    rw (c.in-Each.is, view-Each c.in-Each.place c.in-Each.item)
    (list_left c.read_each.new.memory.left c.take.new.self.left c.args.memory.now.left (each_footprint (read_item item c.args.whole.now c.args.base) footprint (width item) count c.args.at) left c.in_ok-take-in-Each.ensures.ok)

pub read_form-returns-in_err-read_each-in-Each-clause-err :
    goal.read_form-returns-in_err-read_each-in-Each-clause-err
read_form-returns-in_err-read_each-in-Each-clause-err t c =
    let p = err_from_is_err_and c.from_residual-in_err-read_each-in-Each.result c.from_residual-in_err-read_each-in-Each.ensures.1 in
    let item = item_view c.in-Each.item in
    let read = read_item item c.args.whole.now c.args.base in
    let footprint = item_footprint item c.args.whole.now c.args.base in
    let count = count_in (map value_view c.args.before.now) c.in-Each.place in
    let ends = rw c.count_in-count.ensures at c.in_err-read_each-in-Each.ensures.err in
    rw (p.1, p.2, c.in-Each.is, view-Each c.in-Each.place c.in-Each.item)
    (list_ends (read_each read (width item) count c.args.at []) (λ values. Ok (elements (values_of values))) (each_footprint read footprint (width item) count c.args.at) c.take.new.self.left c.args.memory.now.left
    c.in_err-read_each-in-Each.field-0.0 c.in_ok-take-in-Each.ensures.ok ends)
