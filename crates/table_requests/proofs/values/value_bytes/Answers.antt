use Rattle.std.proofs.Common.{List, ℕ, Ok, sym, ap, ◌∙◌}
use Rattle.serde_json.specs.View.{view}
use Rattle.message_tables.specs.View.{tlv_view}
use Rattle.qmi_values.specs.View.{val_view}
use Rattle.tlv_values.specs.Spelling.{spelling}
use Rattle.tlv_values.proofs.Spelled.{spelled, spelling_is}
use Rattle.json_values.specs.Paths.{fitting_as}
use Rattle.json_values.proofs.Fits.{fits_named}
use Rattle.table_requests.proofs.values.value_bytes.Goals as goal

pub unreachable-requires : goal.unreachable-requires
unreachable-requires c =
    let none = rw c.in-Err-Misfit.field-0-is at c.in-Err-Misfit.ensures.err in
    let form = (tlv_view c.args.tlv.now).form in
    none _ (spelled form (val_view c.in_ok-val.val) c.requires (fits_named c.args.tlv.now.name form (view c.args.json.now) (val_view c.in_ok-val.val) c.in_ok-val.ensures))

pub returns-in-Ok : goal.returns-in-Ok
returns-in-Ok c =
    let form = (tlv_view c.args.tlv.now).form in
    ap (fitting_as (spelling form)) c.in_ok-val.ensures ∙ ap (λ (bytes : List ℕ). Ok bytes) (sym (spelling_is form (val_view c.in_ok-val.val) _ c.requires c.in-Ok.ensures.ok))
