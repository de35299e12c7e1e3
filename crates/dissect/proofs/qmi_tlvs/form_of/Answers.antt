use Rattle.std.proofs.Common.{◌≡◌, ◌∙◌, ◌==◌, ap, sym, refl, option_map, Option, rules, tests, Some, None, Bor}
use Rattle.std.proofs.lemmas.Iterator.{YieldsList-from_slice}
use Rattle.std.proofs.lemmas.Iterator.Search.{find_from_yields_List}
use Rattle.message_tables.specs.declared.tlv.TlvShape.{TlvShape}
use Rattle.message_tables.specs.Tlvs.{TlvForm}
use Rattle.message_tables.specs.View.{tlv_view}
use Rattle.dissect.proofs.Sound.{find_viewed}
use Rattle.dissect.proofs.qmi_tlvs.form_of.Goals as goal

viewed : (found : Option (Bor TlvShape)) → option_map (λ (form : Bor TlvShape). tlv_view form.now) found ≡ option_map tlv_view (option_map (λ (form : Bor TlvShape). form.now) found)
viewed None = refl
viewed (Some form) = refl

pub returns : goal.returns
returns c =
    let found = find_from_yields_List (λ (form : TlvShape). form.kind == c.args.tlv) _ _ c.find.result c.find.ensures.ran (YieldsList-from_slice c.args.forms.now cc) (λ x b q k. search (rules, tests)) in
    viewed c.find.result ∙ ap (option_map tlv_view) found ∙ sym (find_viewed tlv_view (λ (form : TlvForm). form.kind == c.args.tlv) c.args.forms.now)
