use Rattle.mbim_session.proofs.asking.close.Goals as goal

pub returns-clause-asks : goal.returns-clause-asks
returns-clause-asks g c = λ heard stands. rw c.close_request.ensures at (c.exchange.ensures.asks heard stands)
