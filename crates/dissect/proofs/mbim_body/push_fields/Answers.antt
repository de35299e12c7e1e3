use Rattle.std.proofs.Common.{ℕ, List, ◌++◌, ◌∙◌, ap, sym}
use Rattle.mbim_fields.specs.Layout.{Layout}
use Rattle.mbim_fields.specs.Reading.{Read}
use Rattle.mbim_fields.specs.Value.{Value, list_of}
use Rattle.mbim_fields.specs.View.{shape_view, val_view}
use Rattle.mbim_fields.proofs.Agreement.{stand-read}
use Rattle.dissect.specs.Mbim.{read_lines}
use Rattle.dissect.proofs.mbim_body.push_fields.Goals as goal

pub returns : goal.returns
returns c =
    let old : List ℕ = c.args.text.now in
    let shape : Layout = shape_view c.args.shape.now in
    let buffer : List ℕ = c.args.buffer.now in
    c.in_ok-extend_from_slice.ensures.ok
    ∙ ap (λ (l : List ℕ). old ++ l) (c.as_slice.ensures ∙ c.in_ok-lines.ensures)
    ∙ ap (λ (r : Read (List Value)). old ++ read_lines shape buffer r) (sym (stand-read shape (list_of (val_view c.in-Ok.val)) buffer c.in-Ok.ensures.ok))
