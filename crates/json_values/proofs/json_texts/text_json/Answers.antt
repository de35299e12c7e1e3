use Rattle.std.proofs.Common.{◌∙◌}
use Rattle.std.proofs.lemmas.Result.{IfOk-weaker}
use Rattle.json_values.proofs.Octets.{utf8_text, other_text}
use Rattle.json_values.proofs.json_texts.text_json.Goals as goal

pub returns-in-Ok : goal.returns-in-Ok
returns-in-Ok c = IfOk-weaker c.try_from_str.result _ _ (λ json is. is ∙ utf8_text c.args.octets.now c.in-Ok.text.now c.in-Ok.ensures.cases.0 c.in-Ok.ensures.cases.1) c.try_from_str.ensures

pub returns-in-Err : goal.returns-in-Err
returns-in-Err c = IfOk-weaker c.hex_object.result _ _ (λ json is. is ∙ other_text c.args.octets.now c.in-Err.ensures.cases.0) c.hex_object.ensures
