use Rattle.std.proofs.Common.{◌∙◌, ap, map}
use Rattle.std.proofs.lemmas.List.{take_all}
use Rattle.std.proofs.lemmas.Simd.{map-map}
use Rattle.qmi_services.specs.View.{output_view}
use Rattle.qmi_services.proofs.tables.outputs.Goals as goal

pub returns : goal.returns
returns c =
    rw map-map
    (c.from.ensures ∙ c.loop-output.invariant ∙ ap (map (λ output. (output_view output).tlv)) (take_all c.loop-output.output-index c.args.outputs.now c.loop-output-test.false))
