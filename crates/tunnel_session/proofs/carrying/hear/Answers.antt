use Rattle.std.proofs.lemmas.Result.{err_from_is_err_and}
use Rattle.link_session.proofs.Steps.{RepliesTo-fails}
use Rattle.mbim_session.proofs.Hearing.{command-reads, command-unread}
use Rattle.tunnel_session.proofs.carrying.hear.Goals as goal

pub returns-in_err-found-clause-asks : goal.returns-in_err-found-clause-asks
returns-in_err-found-clause-asks g c = λ heard stands.
    let p = err_from_is_err_and c.from_residual.result c.from_residual.ensures.1 in
    rw (p.1, p.2) (RepliesTo-fails (c.in_err-found.ensures.asks heard stands))

pub returns-in_err-carried-clause-asks : goal.returns-in_err-carried-clause-asks
returns-in_err-carried-clause-asks g c = λ heard stands.
    let p = err_from_is_err_and c.from_residual-in_err-carried.result c.from_residual-in_err-carried.ensures.1 in
    let number = c.in_ok-found.ensures.number in
    rw (p.1, p.2) (command-unread _ c.exchange.new.awaiting (c.in_ok-found.ensures.asks heard stands) c.bytes.ensures (λ passed is. rw number at (c.in_err-carried.ensures.reads passed is)))

pub returns-clause-asks : goal.returns-clause-asks
returns-clause-asks g c = λ heard stands.
    let number = c.in_ok-found.ensures.number in
    command-reads _ c.exchange.new.awaiting (c.in_ok-found.ensures.asks heard stands) c.bytes.ensures (λ passed is. rw number at (c.in_ok-carried.ensures.reads passed is))

pub returns-clause-whole : goal.returns-clause-whole
returns-clause-whole g c = c.in_ok-carried.ensures.whole
