use Rattle.std.proofs.Common.{sym, ap, ◌∙◌}
use Rattle.std.proofs.lemmas.Str.{encodes_same, chars_from_encodes, scalars-chars}
use Rattle.mbim_fields.specs.Value.{text_of}
use Rattle.mbim_fields.proofs.Views.{view-TextOf}
use Rattle.mbim_services.proofs.requests.text_of.Goals as goal

pub returns-clause-value : goal.returns-clause-value
returns-clause-value c =
    let copy = c.in_ok-from_str.field-0 in
    view-TextOf copy ∙ ap text_of (encodes_same copy c.args.text.now (c.in_ok-from_str.ensures ∙ c.as_str.ensures))

pub returns-clause-scalars : goal.returns-clause-scalars
returns-clause-scalars c =
    let chars = chars_from_encodes c.args.text.now _ c.as_str.utf8 (sym c.as_str.ensures) in
    rw (← chars) at (scalars-chars c.as_str.result.now c.as_str.utf8)
