use Rattle.std.proofs.Common.{sym, ap, ◌∙◌, map-id}
use Rattle.std.proofs.lemmas.Iterator.{YieldsList-from_chars}
use Rattle.std.proofs.lemmas.Iterator.Consumers.{YieldsList-end}
use Rattle.std.proofs.lemmas.Str.{chars_from_encodes}
use Rattle.kit_bytes.specs.Utf16.{utf16_bytes}
use Rattle.kit_bytes.proofs.utf16.utf16_from_text.Goals as goal

pub returns : goal.returns
returns c =
    let chars = chars_from_encodes c.args.text.now _ c.as_str.utf8 (sym c.as_str.ensures) in
    let yielded = YieldsList-end (YieldsList-from_chars c.as_str.result.now c.as_str.utf8 cc) c.loop-char.yielded _ c.loop-char.yielded_by _ _ c.in-None.is c.next.ensures.steps in
    c.loop-char.invariant ∙ ap utf16_bytes (sym (map-id _) ∙ yielded.0 ∙ sym chars)
