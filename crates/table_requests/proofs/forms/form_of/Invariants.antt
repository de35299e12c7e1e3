use Rattle.std.proofs.Common.{◌≡◌, ◌==◌, drop, map}
use Rattle.std.specs.List.{find}
use Rattle.message_tables.specs.View.{tlv_view}
use Rattle.table_requests.proofs.forms.form_of.Given as goal

abbrev pub invariant-loop-form : goal.invariant-loop-form
invariant-loop-form l = find (λ form. form.kind == l.kind) (map tlv_view l.forms) ≡ find (λ form. form.kind == l.kind) (map tlv_view (drop l.form-index l.forms))
