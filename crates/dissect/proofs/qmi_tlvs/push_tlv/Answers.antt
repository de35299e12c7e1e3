use Rattle.std.proofs.Common.{◌==◌, map}
use Rattle.message_tables.specs.Tlvs.{TlvForm}
use Rattle.message_tables.specs.View.{tlv_view}
use Rattle.dissect.proofs.Sound.{form_sound}
use Rattle.dissect.proofs.qmi_tlvs.push_tlv.Goals as goal

pub push_plain-requires : goal.push_plain-requires
push_plain-requires c = form_sound (map tlv_view c.args.forms.now) (λ (form : TlvForm). form.kind == c.args.tlv) _ c.requires c.form_of.ensures
