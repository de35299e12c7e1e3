use Rattle.std.proofs.Common.{◌==◌, map}
use Rattle.message_tables.specs.Tlvs.{TlvForm}
use Rattle.message_tables.specs.View.{tlv_view}
use Rattle.dissect.proofs.Sound.{form_sound}
use Rattle.table_requests.proofs.each.put_tlv.Goals as goal

pub put_by_form-requires : goal.put_by_form-requires
put_by_form-requires g c = form_sound (map tlv_view c.args.forms.now) (λ (form : TlvForm). form.kind == c.args.kind) _ c.requires c.form_of.ensures
