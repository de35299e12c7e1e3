use Rattle.std.proofs.Common.{◌≡◌, sym, ap, ◌∙◌, map-id, nat_le}
use Rattle.std.proofs.lemmas.Iterator.{YieldsList-from_chars}
use Rattle.std.proofs.lemmas.Iterator.Consumers.{YieldsList-end}
use Rattle.std.proofs.lemmas.Str.{chars_from_encodes}
use Rattle.modem_profile.specs.Limits.{utf16_length}
use Rattle.modem_profile.proofs.Units.{units-more, most-from_count}
use Rattle.modem_profile.proofs.phonebook.is_phonebook_text.Goals as goal

pub returns : goal.returns
returns c =
    let chars = chars_from_encodes c.args.text.now _ c.as_str.utf8 (sym c.as_str.ensures) in
    let yielded = YieldsList-end (YieldsList-from_chars c.as_str.result.now c.as_str.utf8 cc) c.loop-char.yielded _ c.loop-char.yielded_by _ _ c.in-None.is c.next.ensures.steps in
    let whole : c.loop-char.yielded ≡ c.args.text.now = sym (map-id _) ∙ yielded.0 ∙ sym chars in
    rw c.loop-char.invariant (most-from_count (utf16_length c.loop-char.yielded) ∙ ap (λ text. nat_le (utf16_length text) 100) whole)

pub loop-char-preserved : goal.loop-char-preserved
loop-char-preserved c =
    units-more c.loop-char.yielded c.in-Some.char c.len_utf16.result c.loop-char.units c.saturating_add-units.result c.loop-char.invariant c.saturating_add-units.ensures
    c.len_utf16.ensures.bmp c.len_utf16.ensures.surrogate_pair
