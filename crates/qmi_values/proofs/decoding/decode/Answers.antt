use Rattle.std.proofs.lemmas.Bool.{false≢true}
use Rattle.std.proofs.lemmas.Result.{err_from_is_err_and}
use Rattle.qmi_shapes.specs.View.{shape_view}
use Rattle.qmi_values.specs.View.{val_view}
use Rattle.qmi_values.proofs.Refusals.{part_if_no_rest, stops_refused, more_refused}
use Rattle.qmi_values.proofs.decoding.decode.Goals as goal

pub returns-in_err-val-clause-err : goal.returns-in_err-val-clause-err
returns-in_err-val-clause-err c =
    let p = err_from_is_err_and c.from_residual-in_err-val.result c.from_residual-in_err-val.ensures.1 in
    let is = part_if_no_rest (shape_view c.args.shape.now) c.requires (λ rest. false≢true (c.if-is_rest.ensures.1 rest)) in
    rw (p.1, p.2) (stops_refused (shape_view c.args.shape.now) c.args.bytes.now c.new-reader.result c.in_err-val.field-0.0 is c.new-reader.ensures.place c.new-reader.ensures.left c.in_err-val.ensures.err)

pub returns-else-is_at_end-clause-err : goal.returns-else-is_at_end-clause-err
returns-else-is_at_end-clause-err c =
    let is = part_if_no_rest (shape_view c.args.shape.now) c.requires (λ rest. false≢true (c.if-is_rest.ensures.1 rest)) in
    more_refused (shape_view c.args.shape.now) c.args.bytes.now (val_view c.in_ok-val.val) c.new-reader.result c.read.new.reader c.place-place.result is c.new-reader.ensures.place c.new-reader.ensures.left
    c.in_ok-val.ensures.ok (λ none. false≢true (c.if-is_at_end.ensures.1 none)) c.place-place.ensures
