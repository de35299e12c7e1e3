use Rattle.std.proofs.lemmas.Result.{err_from_is_err_and}
use Rattle.link_session.proofs.Steps.{AsksFor-unmade, RepliesTo-fails}
use Rattle.mbim_session.specs.Hearing.{KeepsNothing}
use Rattle.mbim_session.proofs.session.configure.Goals as goal

pub returns-in_err-copy-clause-asks : goal.returns-in_err-copy-clause-asks
returns-in_err-copy-clause-asks g c = λ heard stands.
    let p = err_from_is_err_and c.from_residual.result c.from_residual.ensures.1 in rw (p.1, p.2) (RepliesTo-fails (AsksFor-unmade _ KeepsNothing _ _ _))

pub returns-clause-asks : goal.returns-clause-asks
returns-clause-asks g c = λ heard stands. rw c.in_ok-copy.ensures at (c.ask-reply.ensures.asks heard stands)
