use Rattle.std.proofs.Common.{inl, refl}
use Rattle.std.proofs.lemmas.Result.{err_from_is_err_and}
use Rattle.link_session.specs.Waiting.{nothing_heard}
use Rattle.link_session.proofs.Hearing.{Stands-start}
use Rattle.link_session.proofs.Steps.{Makes-none}
use Rattle.qmux_frame.specs.Frame.{size_of}
use Rattle.qmux_frame.specs.Framing.{size_of-begins, size_of-kept}
use Rattle.session_script.proofs.Going.{Goes-behind, Goes-behind_fails, Goes-ends, Goes-performs}
use Rattle.request_session.specs.Session.{ask_as, session}
use Rattle.request_session.proofs.session.request_session.Goals as goal

pub returns-in_err-incoming-clause-session : goal.returns-in_err-incoming-clause-session
returns-in_err-incoming-clause-session g c = let p = err_from_is_err_and c.from_residual.result c.from_residual.ensures.1 in rw (p.1, p.2) (Makes-none _ (nothing_heard, inl (refl, refl)))

pub returns-in_err-access-clause-session : goal.returns-in_err-access-clause-session
unfolding session
returns-in_err-access-clause-session g c =
    let p = err_from_is_err_and c.from_residual-in_err-access.result c.from_residual-in_err-access.ensures.1 in
    rw (p.1, p.2) (Goes-performs (Goes-behind_fails (ask_as c.args.plan.now) (c.in_err-access.ensures.reaches nothing_heard (rw c.in_ok-incoming.ensures (Stands-start size_of size_of-kept size_of-begins)))))

pub returns-in-Client-clause-session : goal.returns-in-Client-clause-session
unfolding session
returns-in-Client-clause-session g c =
    let goes = rw c.in-Client.is at (c.in_ok-access.ensures.reaches nothing_heard (rw c.in_ok-incoming.ensures (Stands-start size_of size_of-kept size_of-begins))) in
    Goes-performs (Goes-behind (ask_as c.args.plan.now) goes (λ now there. c.ask.ensures.asks now there))

pub returns-clause-session : goal.returns-clause-session
unfolding session
returns-clause-session g c =
    let goes = rw c.in-Refused.is at (c.in_ok-access.ensures.reaches nothing_heard (rw c.in_ok-incoming.ensures (Stands-start size_of size_of-kept size_of-begins))) in
    Goes-performs (Goes-behind (ask_as c.args.plan.now) goes (λ now there. Goes-ends _ there))
