use Rattle.std.proofs.Common.{ap}
use Rattle.std.proofs.lemmas.Result.{err_from_is_err_and}
use Rattle.link_session.proofs.Steps.{AsksFor-unmade, RepliesTo-fails}
use Rattle.mbim_session.specs.declared.command_answer.CommandAnswer.{CommandAnswer}
use Rattle.mbim_session.specs.Hearing.{KeepsNothing}
use Rattle.tunnel_session.proofs.carrying.carry.Goals as goal

pub returns-in_err-message-clause-asks : goal.returns-in_err-message-clause-asks
returns-in_err-message-clause-asks g c = λ heard stands.
    let p = err_from_is_err_and c.from_residual.result c.from_residual.ensures.1 in rw (p.1, p.2) (RepliesTo-fails (AsksFor-unmade _ KeepsNothing _ _ _))

pub returns-in_err-messages-clause-asks : goal.returns-in_err-messages-clause-asks
returns-in_err-messages-clause-asks g c = λ heard stands.
    let p = err_from_is_err_and c.from_residual-in_err-messages.result c.from_residual-in_err-messages.ensures.1 in rw (p.1, p.2) (RepliesTo-fails (AsksFor-unmade _ KeepsNothing _ _ _))

pub returns-in_err-coming-clause-asks : goal.returns-in_err-coming-clause-asks
returns-in_err-coming-clause-asks g c = λ heard stands.
    let p = err_from_is_err_and c.from_residual-in_err-coming.result c.from_residual-in_err-coming.ensures.1 in rw (p.1, p.2) (RepliesTo-fails (AsksFor-unmade _ KeepsNothing _ _ _))

pub returns-clause-asks : goal.returns-clause-asks
returns-clause-asks g c = λ heard stands.
    rw (c.service_of.ensures, c.as_slice-2.ensures, c.in_ok-messages.ensures, c.as_slice.ensures, c.in_ok-message.ensures, ap (λ (a : CommandAnswer). a.number) c.in_ok-coming.ensures) at (c.hear.ensures.asks heard stands)
