use Rattle.std.proofs.Common.{Ok, Err}
use Rattle.std.proofs.lemmas.Result.{err_from_is_err_and}
use Rattle.session_script.proofs.Going.{Goes-answered, Goes-no_memory, Goes-unanswered}
use Rattle.request_session.proofs.Reading.{Goes-reading}
use Rattle.request_session.proofs.session.send_request.Goals as goal

pub returns-in_err-message-clause-requests : goal.returns-in_err-message-clause-requests
returns-in_err-message-clause-requests g c = λ heard stands. let p = err_from_is_err_and c.from_residual.result c.from_residual.ensures.1 in rw (p.1, p.2) (Goes-no_memory _ _)

pub returns-in_err-found-clause-requests : goal.returns-in_err-found-clause-requests
returns-in_err-found-clause-requests g c = λ heard stands.
    let p = err_from_is_err_and c.from_residual-in_err-found.result c.from_residual-in_err-found.ensures.1 in
    let asks = rw (c.as_slice.ensures, c.in_ok-message.ensures, c.wanted-wanted.ensures, c.number_of-number.ensures) at (c.in_err-found.ensures.asks heard stands) in
    rw (p.1, p.2) (Goes-unanswered asks)

pub returns-in_err-answer-clause-requests : goal.returns-in_err-answer-clause-requests
returns-in_err-answer-clause-requests g c = λ heard stands.
    let p = err_from_is_err_and c.from_residual-in_err-answer.result c.from_residual-in_err-answer.ensures.1 in
    let asks = rw (c.as_slice.ensures, c.in_ok-message.ensures, c.wanted-wanted.ensures, c.number_of-number.ensures) at (c.in_ok-found.ensures.asks heard stands) in
    rw (p.1, p.2) (Goes-answered asks (Goes-reading _ asks.answered.stands c.in_ok-found.found c.bytes.ensures (Err c.in_err-answer.field-0.0) c.in_err-answer.ensures))

pub returns-clause-requests : goal.returns-clause-requests
returns-clause-requests g c = λ heard stands.
    let asks = rw (c.as_slice.ensures, c.in_ok-message.ensures, c.wanted-wanted.ensures, c.number_of-number.ensures) at (c.in_ok-found.ensures.asks heard stands) in
    Goes-answered asks (Goes-reading _ asks.answered.stands c.in_ok-found.found c.bytes.ensures (Ok c.in_ok-answer.answer) c.in_ok-answer.ensures)
