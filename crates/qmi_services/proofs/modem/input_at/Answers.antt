use Rattle.std.proofs.Common.{sym}
use Rattle.std.proofs.lemmas.Bool.{eq-eqb}
use Rattle.std.specs.Prelude.{◌==◌}
use Rattle.message_tables.specs.Tlvs.{TlvForm}
use Rattle.qmi_services.specs.View.{tlv_view}
use Rattle.qmi_services.proofs.Found.{find-at, find-more}
use Rattle.qmi_services.proofs.Lines.{other-eqb}
use Rattle.qmi_services.proofs.modem.input_at.Goals as goal

pub returns-then-input-kind : goal.returns-then-input-kind
returns-then-input-kind c =
    sym (find-at (λ (input : TlvForm). input.kind == c.args.kind) tlv_view c.args.inputs.now c.loop-input.input-index _ c.loop-input-test.true c.loop-input.invariant (eq-eqb _ c.args.kind c.if-input-kind.true))

pub loop-input-preserved : goal.loop-input-preserved
loop-input-preserved c = find-more (λ (input : TlvForm). input.kind == c.args.kind) tlv_view c.args.inputs.now c.loop-input.input-index _ c.loop-input-test.true c.loop-input.invariant (other-eqb _ c.args.kind c.if-input-kind.false)
