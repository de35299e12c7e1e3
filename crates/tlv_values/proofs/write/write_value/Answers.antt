use Rattle.std.proofs.Common.{◌≡◌, ◌++◌, ◌≤◌, OnOk, ℕ, List, length, sym, ◌∙◌, subst}
use Rattle.tlv_codec.specs.Tlv.{entry_text}
use Rattle.qmi_shapes.specs.View.{shape_view}
use Rattle.qmi_values.specs.View.{val_view}
use Rattle.tlv_values.proofs.Spelled.{spelled, spelling_is}
use Rattle.tlv_values.proofs.write.write_value.Goals as goal

pub write_tlv-requires : goal.write_tlv-requires
write_tlv-requires c =
    let whole = c.as_slice.ensures ∙ spelling_is (shape_view c.args.shape.now) (val_view c.args.val.now) _ c.requires.well_made c.in-Ok.ensures.ok in
    subst (λ (l : List ℕ). length l ≤ 65535) (sym whole) c.requires.fits.short

pub unreachable-requires : goal.unreachable-requires
unreachable-requires c =
    let none = rw c.in-Err-Misfit.field-0-is at c.in-Err-Misfit.ensures.err in
    none _ (spelled (shape_view c.args.shape.now) (val_view c.args.val.now) c.requires.well_made c.requires.fits.of_form)

pub returns-in-Ok-clause-ok : goal.returns-in-Ok-clause-ok
returns-in-Ok-clause-ok c =
    let whole = c.as_slice.ensures ∙ spelling_is (shape_view c.args.shape.now) (val_view c.args.val.now) _ c.requires.well_made c.in-Ok.ensures.ok in
    subst (λ (l : List ℕ). OnOk c.write_tlv.result (c.write_tlv.new.out ≡ c.args.out.now ++ entry_text (record { kind = c.args.kind; value = l }))) whole c.write_tlv.ensures.ok
