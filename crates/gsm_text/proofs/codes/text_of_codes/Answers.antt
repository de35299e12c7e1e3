use Rattle.std.proofs.Common.{◌≡◌, ◌∙◌, string_bytes, encode_utf8_all}
use Rattle.std.proofs.lemmas.Str.{encodes_same}
use Rattle.gsm_text.specs.Alphabet.{chars_of}
use Rattle.gsm_text.proofs.Characters.{closed, closed_escape, read_all}
use Rattle.gsm_text.proofs.codes.text_of_codes.Goals as goal
use Rattle.gsm_text.proofs.codes.text_of_codes.Goals.{then-escaped-2+in_ok-push-3, else-escaped-2}

pub returns : goal.returns
returns c =
    let end = read_all _ _ _ _ c.loop-code-test.false c.loop-code.invariant in
    let written : string_bytes c.if-escaped-2.text ≡ encode_utf8_all (chars_of c.args.codes.now) =
    elim c.if-escaped-2.branch [
      | then-escaped-2+in_ok-push-3 w ↦ rw w.text-is (closed_escape c.args.codes.now _ _ _ w.if-escaped-2.true w.in_ok-push-3.ensures.bytes end)
      | else-escaped-2 w ↦ rw w.text-is (closed c.args.codes.now _ _ w.if-escaped-2.false end)
    ]
    in encodes_same _ _ (c.from.ensures ∙ written)
