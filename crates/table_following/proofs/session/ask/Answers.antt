use Rattle.std.proofs.Common.{refl, sym, ◌∙◌}
use Rattle.std.proofs.lemmas.Result.{err_from_is_err_and}
use Rattle.request_session.specs.declared.plan.RequestPlan.{RequestPlan}
use Rattle.request_session.specs.Session.{leave, request}
use Rattle.table_following.proofs.Parts.{by_same, part_fails, part_goes, told_ends, told_left, told_link_end, told_unleft}
use Rattle.table_following.proofs.session.ask.Goals as goal

pub returns-in_err-answer-clause-asks : goal.returns-in_err-answer-clause-asks
returns-in_err-answer-clause-asks g c = λ heard stands.
    let p = err_from_is_err_and c.from_residual.result c.from_residual.ensures.1 in rw (p.1, p.2) (part_fails _ (by_same (λ (plan : RequestPlan). request plan c.args.client) c.session.ensures.same (c.in_err-answer.ensures.requests heard stands)))

pub returns-in_err-told-clause-asks : goal.returns-in_err-told-clause-asks
returns-in_err-told-clause-asks g c = λ heard stands.
    let p = err_from_is_err_and c.from_residual-in_err-told.result c.from_residual-in_err-told.ensures.1 in
    let goes = by_same (λ (plan : RequestPlan). request plan c.args.client) c.session.ensures.same (c.in_ok-answer.ensures.requests heard stands) in
    rw (p.1, p.2) (part_goes goes (told_ends (c.in_err-told.ensures.tells goes.later goes.stands) (refl, refl)))

pub returns-then-is_link_end-clause-asks : goal.returns-then-is_link_end-clause-asks
returns-then-is_link_end-clause-asks g c = λ heard stands.
    let goes = by_same (λ (plan : RequestPlan). request plan c.args.client) c.session.ensures.same (c.in_ok-answer.ensures.requests heard stands) in
    part_goes goes (told_link_end (c.in_ok-told.ensures.tells goes.later goes.stands) (sym c.is_link_end.ensures ∙ c.if-is_link_end.true))

pub returns-in_err-leave-clause-asks : goal.returns-in_err-leave-clause-asks
returns-in_err-leave-clause-asks g c = λ heard stands.
    let p = err_from_is_err_and c.from_residual-in_err-leave.result c.from_residual-in_err-leave.ensures.1 in
    let goes = by_same (λ (plan : RequestPlan). request plan c.args.client) c.session.ensures.same (c.in_ok-answer.ensures.requests heard stands) in
    let tells = c.in_ok-told.ensures.tells goes.later goes.stands in
    let leaves = by_same (λ (plan : RequestPlan). leave plan c.args.client) c.session-2.ensures.same (c.in_err-leave.ensures.leaves tells.now tells.stands) in
    rw (p.1, p.2) (part_goes goes (told_unleft tells (sym c.is_link_end.ensures ∙ c.if-is_link_end.false) leaves))

pub returns-clause-asks : goal.returns-clause-asks
returns-clause-asks g c = λ heard stands.
    let goes = by_same (λ (plan : RequestPlan). request plan c.args.client) c.session.ensures.same (c.in_ok-answer.ensures.requests heard stands) in
    let tells = c.in_ok-told.ensures.tells goes.later goes.stands in
    let leaves = by_same (λ (plan : RequestPlan). leave plan c.args.client) c.session-2.ensures.same (c.in_ok-leave.ensures.leaves tells.now tells.stands) in
    part_goes goes (told_left tells (sym c.is_link_end.ensures ∙ c.if-is_link_end.false) leaves)
