use Rattle.link_session.proofs.Steps.{AsksFor-sent, AsksFor-unsent}
use Rattle.link_session.proofs.asking.exchange.Goals as goal

pub returns-in-Err-clause-asks : goal.returns-in-Err-clause-asks
returns-in-Err-clause-asks g c = λ heard stands. AsksFor-unsent _ _ _ _ c.in-Err.ensures.calls

pub returns-clause-asks : goal.returns-clause-asks
returns-clause-asks g c = λ heard stands. AsksFor-sent _ _ c.in_default.ensures.calls (c.wait_for.ensures.waits heard stands)
