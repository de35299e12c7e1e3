use Rattle.std.proofs.Common.{refl, ap, Ok}
use Rattle.std.proofs.lemmas.Result.{err_from_is_err_and}
use Rattle.qmi_services.specs.declared.answers.QmiEnd.{QmiEnd}
use Rattle.link_session.specs.Waiting.{nothing_heard}
use Rattle.device_core.specs.Session.{direct, proxied}
use Rattle.qmux_frame.specs.Frame.{size_of}
use Rattle.qmux_frame.specs.Framing.{size_of-begins, size_of-kept}
use Rattle.link_session.proofs.Hearing.{Stands-start}
use Rattle.link_session.proofs.Steps.{Makes-map, Makes-none, Replies-as, Step-read, Step-unread}
use Rattle.device_core.proofs.session.qmi_session.Goals as goal

pub returns-then-not-plan-clause-session : goal.returns-then-not-plan-clause-session
returns-then-not-plan-clause-session g c = Makes-map (λ calls chooses. direct c.if-not-plan.true chooses) (c.choose_cid.ensures.chooses nothing_heard (rw c.in_ok-incoming.ensures (Stands-start size_of size_of-kept size_of-begins)))

pub returns-in_err-error-clause-session : goal.returns-in_err-error-clause-session
returns-in_err-error-clause-session g c =
    let p = err_from_is_err_and c.from_residual-in_err-error.result c.from_residual-in_err-error.ensures.1 in
    let replies = c.in_err-error.ensures.asks nothing_heard (rw c.in_ok-incoming.ensures (Stands-start size_of size_of-kept size_of-begins)) in
    rw (p.1, p.2) (Makes-map (λ calls step. proxied c.if-not-plan.false step) (Step-unread replies))

pub returns-in-Failure-clause-session : goal.returns-in-Failure-clause-session
returns-in-Failure-clause-session g c =
    let replies = Replies-as c.in-Failure.is (c.in_ok-error.ensures.asks nothing_heard (rw c.in_ok-incoming.ensures (Stands-start size_of size_of-kept size_of-begins))) in
    Makes-map (λ calls step. proxied c.if-not-plan.false step) (Step-read replies (Makes-none _ (refl, ap (λ (e : QmiEnd). Ok e) c.failed.ensures)))

pub returns-clause-session : goal.returns-clause-session
returns-clause-session g c =
    let replies = Replies-as c.in-Success.is (c.in_ok-error.ensures.asks nothing_heard (rw c.in_ok-incoming.ensures (Stands-start size_of size_of-kept size_of-begins))) in
    Makes-map (λ calls step. proxied c.if-not-plan.false step) (Step-read replies (c.choose_cid-in-Success.ensures.chooses replies.later replies.says.2))
