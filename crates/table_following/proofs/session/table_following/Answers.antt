use Rattle.std.proofs.Common.{refl}
use Rattle.std.proofs.lemmas.Result.{err_from_is_err_and}
use Rattle.link_session.specs.Waiting.{nothing_heard}
use Rattle.link_session.proofs.Hearing.{Stands-start}
use Rattle.qmux_frame.specs.Frame.{size_of}
use Rattle.qmux_frame.specs.Framing.{size_of-begins, size_of-kept}
use Rattle.request_session.specs.Session.{reach}
use Rattle.table_following.proofs.Parts.{GrowBy-none, by_same, part_fails, part_goes, part_without_memory}
use Rattle.table_following.proofs.session.table_following.Goals as goal

pub returns-in_err-incoming-clause-session : goal.returns-in_err-incoming-clause-session
returns-in_err-incoming-clause-session g c = let p = err_from_is_err_and c.from_residual.result c.from_residual.ensures.1 in rw (p.1, p.2) (part_without_memory _ _)

pub returns-in_err-access-clause-session : goal.returns-in_err-access-clause-session
returns-in_err-access-clause-session g c =
    let p = err_from_is_err_and c.from_residual-in_err-access.result c.from_residual-in_err-access.ensures.1 in
    let goes = by_same reach c.session.ensures.same (c.in_err-access.ensures.reaches nothing_heard (rw c.in_ok-incoming.ensures (Stands-start size_of size_of-kept size_of-begins))) in
    rw (p.1, p.2) (part_fails _ goes)

pub returns-in-Client-clause-session : goal.returns-in-Client-clause-session
returns-in-Client-clause-session g c =
    let goes = rw c.in-Client.is at (by_same reach c.session.ensures.same (c.in_ok-access.ensures.reaches nothing_heard (rw c.in_ok-incoming.ensures (Stands-start size_of size_of-kept size_of-begins)))) in
    part_goes goes (c.ask.ensures.asks goes.later goes.stands)

pub returns-clause-session : goal.returns-clause-session
returns-clause-session g c =
    let goes = rw c.in-Refused.is at (by_same reach c.session.ensures.same (c.in_ok-access.ensures.reaches nothing_heard (rw c.in_ok-incoming.ensures (Stands-start size_of size_of-kept size_of-begins)))) in
    part_goes goes (GrowBy-none _ _ (refl, refl, refl))
