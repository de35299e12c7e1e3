use Rattle.std.proofs.Common.{◌≡◌, take, arith}
use Rattle.std.proofs.lemmas.List.{take_all}
use Rattle.std.specs.Option.{option_map}
use Rattle.qmi_values.specs.View.{val_view}
use Rattle.qmi_services.specs.View.{output_view}
use Rattle.qmi_services.proofs.Answering.{AreWellMade-at}
use Rattle.qmi_services.proofs.Outputs.{FitOutputs-length, FitOutputs-at, output_tlvs-more}
use Rattle.qmi_services.proofs.modem.write_tlvs.Goals as goal

pub bounds-values-index : goal.bounds-values-index
bounds-values-index c = omega (arith, FitOutputs-length output_view (option_map val_view) c.args.outputs.now c.args.values.now c.requires.fits, c.loop-index-test.true)

pub write_output-requires-clause-well_made : goal.write_output-requires-clause-well_made
write_output-requires-clause-well_made c =
    AreWellMade-at output_view c.args.outputs.now c.loop-index.index c.index-outputs-index.result c.requires.well_made c.loop-index-test.true c.index-outputs-index.is

pub write_output-requires-clause-fits : goal.write_output-requires-clause-fits
write_output-requires-clause-fits c =
    FitOutputs-at output_view (option_map val_view) c.args.outputs.now c.args.values.now c.loop-index.index c.index-outputs-index.result c.index-values-index.result c.requires.fits c.loop-index-test.true
    c.index-outputs-index.is c.index-values-index.is

pub loop-index-preserved : goal.loop-index-preserved
loop-index-preserved c =
    let size = FitOutputs-length output_view (option_map val_view) c.args.outputs.now c.args.values.now c.requires.fits in
    output_tlvs-more output_view (option_map val_view) c.args.outputs.now c.args.values.now c.loop-index.index c.index-outputs-index.result c.index-values-index.result
    c.args.out.now c.loop-index.out c.write_output.new.out c.loop-index-test.true (omega (arith, size, c.loop-index-test.true)) c.index-outputs-index.is c.index-values-index.is c.loop-index.invariant c.in_ok-write_output.ensures

pub returns : goal.returns
returns c =
    let size = FitOutputs-length output_view (option_map val_view) c.args.outputs.now c.args.values.now c.requires.fits in
    let outputs : take c.loop-index.index c.args.outputs.now ≡ c.args.outputs.now = take_all c.loop-index.index c.args.outputs.now c.loop-index-test.false in
    let values : take c.loop-index.index c.args.values.now ≡ c.args.values.now = take_all c.loop-index.index c.args.values.now (omega (arith, size, c.loop-index-test.false)) in
    rw (outputs, values) at c.loop-index.invariant
