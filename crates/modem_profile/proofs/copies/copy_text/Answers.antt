use Rattle.std.proofs.Common.{◌∙◌}
use Rattle.std.proofs.lemmas.Result.{IfOk-weaker}
use Rattle.std.proofs.lemmas.Str.{encodes_same}
use Rattle.modem_profile.proofs.copies.copy_text.Goals as goal

pub returns : goal.returns
returns c = IfOk-weaker c.from_str.result _ _ (λ copy same. encodes_same copy c.args.text.now (same ∙ c.as_str.ensures)) c.from_str.ensures
