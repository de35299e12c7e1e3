use Rattle.std.proofs.lemmas.Result.{err_from_is_err_and}
use Rattle.link_session.proofs.Steps.{RepliesTo-fails, RepliesTo-reads, RepliesTo-unread}
use Rattle.device_core.proofs.asking.ask.Goals as goal

pub returns-in_err-found-clause-asks : goal.returns-in_err-found-clause-asks
returns-in_err-found-clause-asks g c = λ heard stands.
    let p = err_from_is_err_and c.from_residual.result c.from_residual.ensures.1 in rw (p.1, p.2) (RepliesTo-fails (c.in_err-found.ensures.asks heard stands))

pub returns-in_err-answer-clause-asks : goal.returns-in_err-answer-clause-asks
returns-in_err-answer-clause-asks g c = λ heard stands.
    let p = err_from_is_err_and c.from_residual-in_err-answer.result c.from_residual-in_err-answer.ensures.1 in
    rw (p.1, p.2) (RepliesTo-unread (c.in_ok-found.ensures.asks heard stands) c.bytes.ensures c.in_err-answer.ensures)

pub returns-clause-asks : goal.returns-clause-asks
returns-clause-asks g c = λ heard stands. RepliesTo-reads (c.in_ok-found.ensures.asks heard stands) c.bytes.ensures c.in_ok-answer.ensures
