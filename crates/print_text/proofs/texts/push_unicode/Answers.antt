use Rattle.std.proofs.Common.{List, ℕ, ◌++◌, ap, ◌∙◌, encode_utf8_all, string_bytes}
use Rattle.std.specs.Char.Iter.{escape_rest}
use Rattle.print_text.proofs.Escapes.{escape-drains}
use Rattle.print_text.proofs.texts.push_unicode.Goals as goal

pub returns : goal.returns
returns c =
    let ran = c.extend.ensures.ran in
    let drained = rw c.in_ok-extend.was at ran.4 in
    let rest = escape-drains ran.1 ran.0 drained.1.0 drained.0 drained.1.1 drained.1.2 in
    ran.3 ∙ ap (λ (l : List ℕ). string_bytes c.args.shown.now ++ encode_utf8_all l) (rest ∙ ap escape_rest ran.2 ∙ c.escape_unicode.ensures.rest)
