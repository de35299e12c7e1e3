use Rattle.std.proofs.Common.{◌≡◌, ◌+◌, ◌&&◌, false, length, map, min, drop, arith, rules, sym, ap, ◌∙◌}
use Rattle.std.proofs.lemmas.Result.{IfOk-weaker}
use Rattle.serde_json.specs.View.{members_view, view}
use Rattle.serde_json.specs.declared.value.Value.{Value}
use Rattle.qmi_shapes.specs.View.{fields_of, field_view, fields_view, shape_view}
use Rattle.qmi_values.specs.View.{val_view}
use Rattle.message_tables.proofs.Weights.{weight_field}
use Rattle.message_tables.specs.Tlvs.{is_byte}
use Rattle.json_values.specs.Json.{array_json, json_of, list_json, with_fields}
use Rattle.json_values.proofs.JsonWalks.{field_added, no_field, list_is, sequence_is}
use Rattle.json_values.proofs.json.+values.Goals as goal

pub array_json-returns-in-Some : goal.array_json-returns-in-Some
array_json-returns-in-Some g t c =
    let element = shape_view c.args.element.now in
    let showing = g.S.Shows.showing c.args.shows.now in
    let all : Value → Type 0 = λ json. view json ≡ list_json (c.args.digits && is_byte element) (json_of showing false element) (map val_view c.as_slice.result.now) in
    let whole : Value → Type 0 = λ json. view json ≡ array_json (c.args.digits && is_byte element) (json_of showing false element) (val_view c.args.val.now) in
    IfOk-weaker c.list_json.result all whole
    (λ json is. is ∙ list_is (c.args.digits && is_byte element) (json_of showing false element) c.as_slice.result.now _ (val_view c.args.val.now) c.in-Some.ensures c.as_slice.ensures)
    c.list_json.ensures

pub sequence_json-returns-in-Some : goal.sequence_json-returns-in-Some
sequence_json-returns-in-Some g t c =
    IfOk-weaker c.object_json.result _ _
    (λ json is. is ∙ sequence_is (g.S.Shows.showing c.args.shows.now) c.as_slice.result.now (fields_view c.args.fields.now) c.as_slice-in-Some.result.now _ (val_view c.args.val.now) c.in-Some.ensures c.as_slice-in-Some.ensures c.as_slice.ensures)
    c.object_json.ensures

pub put_fields-put_field-requires : goal.put_fields-put_field-requires
put_fields-put_field-requires g t c =
    let falls = weight_field c.args.fields.now c.loop-index.index c.index-fields-index.result (omega (arith, c.loop-index-test.true, c.min-index-end.ensures)) c.index-fields-index.is in
    search rules

pub put_fields-loop-index-preserved : goal.put_fields-loop-index-preserved
put_fields-loop-index-preserved g t c =
    let showing = g.S.Shows.showing c.args.shows.now in
    field_added showing c.args.fields.now c.args.vals.now c.loop-index.index c.index-fields-index.result c.index-vals-index.result (members_view c.loop-index.members.entries) (members_view c.put_field.new.members.entries)
    (with_fields showing (fields_of (map field_view c.args.fields.now)) (map val_view c.args.vals.now) (members_view c.args.members.now.entries))
    (omega (arith, c.loop-index-test.true, c.min-index-end.ensures)) (omega (arith, c.loop-index-test.true, c.min-index-end.ensures)) c.index-fields-index.is c.index-vals-index.is
    (rw c.as_str-name.ensures at c.in_ok-put_field.ensures) c.loop-index.invariant

pub put_fields-returns : goal.put_fields-returns
put_fields-returns g t c =
    let all : c.loop-index.index ≡ min (length c.args.fields.now) (length c.args.vals.now) = omega (arith, c.loop-index-test.false, c.loop-index.auto.index-end, c.min-index-end.ensures) in
    sym (no_field (g.S.Shows.showing c.args.shows.now) c.args.fields.now c.args.vals.now c.loop-index.index (members_view c.loop-index.members.entries) all) ∙ c.loop-index.invariant
