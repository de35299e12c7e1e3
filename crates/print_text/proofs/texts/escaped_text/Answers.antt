use Rattle.std.proofs.Common.{sym, ap, ◌∙◌, map-id, List, ℕ, ◌++◌, encode_utf8_all}
use Rattle.std.proofs.lemmas.Iterator.{YieldsList-from_chars}
use Rattle.std.proofs.lemmas.Iterator.Consumers.{YieldsList-end}
use Rattle.std.proofs.lemmas.Str.{chars_from_encodes}
use Rattle.print_text.specs.Texts.{escaped, escaped_text}
use Rattle.print_text.proofs.Escapes.{escaped_text-push}
use Rattle.print_text.proofs.texts.escaped_text.Goals as goal

pub loop-char-preserved : goal.loop-char-preserved
loop-char-preserved c =
    c.in_ok-push_escaped.ensures ∙ ap (λ (l : List ℕ). l ++ encode_utf8_all (escaped c.in-Some.char)) c.loop-char.invariant ∙ sym (escaped_text-push c.loop-char.yielded c.in-Some.char)

pub returns : goal.returns
returns c =
    let chars = chars_from_encodes c.args.text.now _ c.as_str.utf8 (sym c.as_str.ensures) in
    let yielded = YieldsList-end (YieldsList-from_chars c.as_str.result.now c.as_str.utf8 cc) c.loop-char.yielded _ c.loop-char.yielded_by _ _ c.in-None.is c.next.ensures.steps in
    c.loop-char.invariant ∙ ap escaped_text (sym (map-id _) ∙ yielded.0 ∙ sym chars)
