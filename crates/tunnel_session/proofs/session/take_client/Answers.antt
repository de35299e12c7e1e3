use Rattle.std.proofs.Common.{◌≡◌, None, sym, ◌∙◌}
use Rattle.std.proofs.lemmas.Result.{err_from_is_err_and}
use Rattle.link_session.proofs.Steps.{Makes-map}
use Rattle.link_session.specs.Marks.{Placed}
use Rattle.device_core.specs.Hearing.{failure_in}
use Rattle.device_core.proofs.Allocation.{allocated-in, allocated-some}
use Rattle.tunnel_session.proofs.Steps.{Makes-read, Makes-unread, OnSuccess-failure, OnSuccess-none}
use Rattle.tunnel_session.proofs.session.take_client.Goals as goal

pub returns-in_err-answer-clause-takes : goal.returns-in_err-answer-clause-takes
returns-in_err-answer-clause-takes g c = λ heard stands.
    let p = err_from_is_err_and c.from_residual.result c.from_residual.ensures.1 in rw (p.1, p.2) (Makes-unread _ c.in_err-answer.ensures)

pub returns-in-Some-clause-takes : goal.returns-in-Some-clause-takes
returns-in-Some-clause-takes g c = λ heard stands.
    let failure = sym c.failure-error.ensures ∙ c.in-Some.is in
    Makes-read c.in_ok-answer.answer c.in_ok-answer.ensures (Makes-map (λ calls closes. OnSuccess-failure c.in_ok-answer.answer _ _ _ failure closes) (rw c.failed.ensures at (c.close_with.ensures.closes heard stands)))

pub returns-clause-takes : goal.returns-clause-takes
returns-clause-takes g c = λ heard stands.
    let none : failure_in c.in_ok-answer.answer ≡ None = sym c.failure-error.ensures ∙ c.in_default.is in
    Makes-read c.in_ok-answer.answer c.in_ok-answer.ensures
    (Makes-map (λ calls commands. OnSuccess-none c.in_ok-answer.answer _ _ _ _ _ none (c.allocated-id.result, allocated-in c.tlvs_in.ensures c.as_slice.ensures c.allocated-id.ensures, commands)) (c.run_command.ensures.commands heard stands))

pub allocated-id-requires : goal.allocated-id-requires
allocated-id-requires g c =
    let none : failure_in c.in_ok-answer.answer ≡ None = sym c.failure-error.ensures ∙ c.in_default.is in
    let message : Placed = record { place = c.args.message.now.place; bytes = c.args.message.now.bytes } in
    rw (c.tlvs_in.ensures, c.as_slice.ensures) (allocated-some c.args.service message c.in_ok-answer.answer none c.in_ok-answer.ensures)
