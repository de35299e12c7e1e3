use Rattle.std.proofs.Common.{◌∙◌, ◌++◌, ℕ, List, ap, sym, encode_utf8, encode_utf8_all}
use Rattle.std.proofs.lemmas.List.{take_all}
use Rattle.std.proofs.lemmas.Str.{encodes_same}
use Rattle.sms_pdu.proofs.Writing.{encodes-take}
use Rattle.sms_pdu.proofs.texts.text_of.Goals as goal

pub loop-char-preserved : goal.loop-char-preserved
loop-char-preserved c =
    c.in_ok-push.ensures.bytes
    ∙ ap (λ (l : List ℕ). l ++ encode_utf8 c.char-item.result) c.loop-char.invariant
    ∙ sym (encodes-take c.args.chars.now c.loop-char.char-index c.char-item.result c.loop-char-test.true c.char-item.is)

pub returns : goal.returns
returns c = encodes_same _ _ (c.from.ensures ∙ c.loop-char.invariant ∙ ap encode_utf8_all (take_all _ c.args.chars.now c.loop-char-test.false))
