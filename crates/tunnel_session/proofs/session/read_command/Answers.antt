use Rattle.std.proofs.lemmas.Result.{err_from_is_err_and}
use Rattle.tunnel_session.proofs.Steps.{Makes-read, Makes-unread}
use Rattle.tunnel_session.proofs.session.read_command.Goals as goal

pub returns-in_err-answer-clause-reads : goal.returns-in_err-answer-clause-reads
returns-in_err-answer-clause-reads g c = λ heard stands.
    let p = err_from_is_err_and c.from_residual.result c.from_residual.ensures.1 in rw (p.1, p.2) (Makes-unread _ c.in_err-answer.ensures)

pub returns-clause-reads : goal.returns-clause-reads
returns-clause-reads g c = λ heard stands. Makes-read c.in_ok-answer.answer c.in_ok-answer.ensures (c.finish.ensures.finishes heard stands)
