use Rattle.std.proofs.Common.{◌≡◌, map, sym, subst}
use Rattle.std.specs.Prelude.{◌==◌}
use Rattle.qmi_shapes.specs.View.{shape_view}
use Rattle.qmi_shapes.specs.WellMade.{IsWellMade}
use Rattle.message_tables.specs.Tlvs.{TlvForm}
use Rattle.qmi_services.specs.View.{tlv_view}
use Rattle.qmi_services.proofs.Found.{find-holds}
use Rattle.qmi_services.proofs.modem.Message.input.Goals as goal

pub read_value_in-requires : goal.read_value_in-requires
read_value_in-requires c =
    let made = find-holds (λ (input : TlvForm). IsWellMade input.form) (λ (input : TlvForm). input.kind == c.args.kind) (map tlv_view c.self.inside.row.now.input.now) (tlv_view c.in-Some.field-0.now) c.self.invariant.input
    (sym c.in-Some.ensures) in
    let form : (tlv_view c.in-Some.field-0.now).form ≡ shape_view c.in_ok-shape.shape = cc (c.in_ok-shape.ensures, c.in-Some.field-0-is, c.in-Some.format-is) in
    subst IsWellMade form made
