use Rattle.std.proofs.lemmas.Result.{err_from_is_err_and}
use Rattle.link_session.proofs.Steps.{AsksFor-unmade}
use Rattle.device_core.proofs.asking.exchange.Goals as goal

pub returns-in_err-message-clause-asks : goal.returns-in_err-message-clause-asks
returns-in_err-message-clause-asks g c = λ heard stands. let p = err_from_is_err_and c.from_residual.result c.from_residual.ensures.1 in rw (p.1, p.2) (AsksFor-unmade _ _ _ _ _)

pub returns-clause-asks : goal.returns-clause-asks
returns-clause-asks g c = λ heard stands. rw (c.service_of.ensures, c.as_slice.ensures, c.in_ok-message.ensures) at (c.exchange.ensures.asks heard stands)
