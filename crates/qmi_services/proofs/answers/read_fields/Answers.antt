use Rattle.std.proofs.lemmas.Result.{err_from_is_err_and}
use Rattle.qmi_services.specs.View.{output_view}
use Rattle.qmi_services.proofs.Answering.{AllSay-more, AreWellMade-at, AnyUnread-at, IfUnread-weaker}
use Rattle.qmi_services.proofs.answers.read_fields.Goals as goal

pub read_field-requires : goal.read_field-requires
read_field-requires c = AreWellMade-at output_view c.args.outputs.now c.loop-output.output-index c.output-item.result c.requires c.loop-output-test.true c.output-item.is

pub loop-output-preserved : goal.loop-output-preserved
loop-output-preserved c =
    AllSay-more output_view c.args.outputs.now c.loop-output.output-index c.output-item.result c.args.tlvs.now _ _ c.loop-output-test.true c.output-item.is c.loop-output.invariant c.in_ok-read_field.ensures.ok

pub returns-in_err-read_field-clause-err : goal.returns-in_err-read_field-clause-err
returns-in_err-read_field-clause-err c =
    let p = err_from_is_err_and c.from_residual.result c.from_residual.ensures.1 in
    rw (p.1, p.2)
    (IfUnread-weaker _ _ c.in_err-read_field.field-0.0
    (AnyUnread-at output_view c.args.outputs.now c.loop-output.output-index c.output-item.result c.args.tlvs.now c.loop-output-test.true c.output-item.is) c.in_err-read_field.ensures.err)
