use Rattle.std.proofs.Common.{◌≡◌, ◌∙◌, encode_utf8_all}
use Rattle.std.proofs.lemmas.Result.{IfOk-weaker}
use Rattle.std.proofs.lemmas.Str.{encodes_same}
use Rattle.sms_pdu.proofs.texts.copy_of.Goals as goal

pub returns : goal.returns
returns c =
    IfOk-weaker c.from_str.result (λ copy. encode_utf8_all copy ≡ c.as_str.result.now) (λ copy. copy ≡ c.args.text.now) (λ copy same. encodes_same copy c.args.text.now (same ∙ c.as_str.ensures)) c.from_str.ensures
