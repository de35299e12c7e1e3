use Rattle.std.proofs.Common.{◌≡◌, ◌+◌, ◌<◌, length, map, min, drop, arith, sym, ap, ◌∙◌}
use Rattle.serde_json.specs.Data.{Members}
use Rattle.serde_json.specs.View.{members_view}
use Rattle.mbim_fields.specs.View.{layout_of, field_view, value_view}
use Rattle.mbim_fields.specs.declared.layout.FieldShape.{out-FieldShape}
use Rattle.mbim_fields.proofs.Views.{view-shape}
use Rattle.fields_json.specs.Json.{with_fields}
use Rattle.fields_json.proofs.Walks.{put_field, skip_field, no_field}
use Rattle.fields_json.proofs.values.+values.Goals as goal

pub put_fields-loop-index-preserved-then-counts : goal.put_fields-loop-index-preserved-then-counts
put_fields-loop-index-preserved-then-counts t c =
    let fields = (out-FieldShape c.args.shape.now).0.now in
    let in_fields : c.loop-index.index < length fields = omega (arith, c.loop-index-test.true, c.min-index-end.ensures) in
    let in_values : c.loop-index.index < length c.args.values.now = omega (arith, c.loop-index-test.true, c.min-index-end.ensures) in
    sym (skip_field fields c.args.values.now c.loop-index.index c.index-values-index.result (members_view c.loop-index.members.entries) c.counts.result (in_fields, in_values, c.index-values-index.is) (c.counts.ensures, c.if-counts.true))
    ∙ c.loop-index.invariant

pub put_fields-loop-index-preserved : goal.put_fields-loop-index-preserved
put_fields-loop-index-preserved t c =
    let fields = (out-FieldShape c.args.shape.now).0.now in
    let i = c.loop-index.index in
    let in_fields : i < length fields = omega (arith, c.loop-index-test.true, c.min-index-end.ensures) in
    let in_values : i < length c.args.values.now = omega (arith, c.loop-index-test.true, c.min-index-end.ensures) in
    let step =
    put_field fields c.args.values.now i _ c.index-values-index.result (members_view c.loop-index.members.entries) c.spelled-name.result.now c.counts.result (in_fields, in_values, c.index-values-index.is) (c.counts.ensures, c.if-counts.false)
    c.spelled-name.ensures in
    ap (λ (m : Members). with_fields (layout_of (map field_view (drop (i + 1) fields))) (i + 1) (map value_view (drop (i + 1) c.args.values.now)) m) c.in_ok-put_field.ensures ∙ sym step ∙ c.loop-index.invariant

pub put_fields-returns : goal.put_fields-returns
put_fields-returns t c =
    let fields = (out-FieldShape c.args.shape.now).0.now in
    let all : c.loop-index.index ≡ min (length fields) (length c.args.values.now) = omega (arith, c.loop-index-test.false, c.loop-index.auto.index-end, c.min-index-end.ensures) in
    rw (view-shape c.args.shape.now) (sym (no_field fields c.args.values.now c.loop-index.index c.loop-index.index (members_view c.loop-index.members.entries) all) ∙ c.loop-index.invariant)
