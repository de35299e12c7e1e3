use Rattle.std.proofs.Common.{Err, subst}
use Rattle.std.proofs.lemmas.Result.{err_from_is_err_and}
use Rattle.serde_json.specs.View.{view}
use Rattle.message_tables.specs.Definitions.{Names}
use Rattle.named_messages.specs.Answers.{Finds}
use Rattle.named_messages.specs.Reading.{message_in}
use Rattle.named_messages.proofs.named.message_behind.Goals as goal

pub returns-in_err-message : goal.returns-in_err-message
returns-in_err-message c =
    let p = err_from_is_err_and c.from_residual-in_err-message.result c.from_residual-in_err-message.ensures.1 in
    rw (p.1, p.2)
    (subst (λ (names : Names). Finds (message_in names c.args.name.now (view c.args.object.now)) (Err c.in_err-message.field-0.0)) c.in_ok-definitions.ensures c.in_err-message.ensures)
