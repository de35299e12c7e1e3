use Rattle.std.proofs.Common.{◌≡◌, None, rules}
use Rattle.link_session.proofs.Steps.{Makes-map}
use Rattle.tunnel_session.specs.Session.{allocating, control, given}
use Rattle.tunnel_session.proofs.session.choose_client.Goals as goal

pub returns-then-service-eq0-clause-chooses : goal.returns-then-service-eq0-clause-chooses
returns-then-service-eq0-clause-chooses g c = λ heard stands.
    let is = rw c.service_of-service.ensures at c.if-service-eq0.true in Makes-map (λ calls commands. control is commands) (c.run_command.ensures.commands heard stands)

pub returns-in-Some-clause-chooses : goal.returns-in-Some-clause-chooses
returns-in-Some-clause-chooses g c = λ heard stands.
    let other = rw c.service_of-service.ensures at c.if-service-eq0.false in
    Makes-map (λ calls commands. given c.in-Some.id other c.in-Some.is commands) (c.run_command-in-Some.ensures.commands heard stands)

pub returns-clause-chooses : goal.returns-clause-chooses
returns-clause-chooses g c = λ heard stands.
    let other = rw c.service_of-service.ensures at c.if-service-eq0.false in
    let none : c.args.plan.now.cid ≡ None = search rules in
    let allocates = rw c.service_of-service.ensures at (c.allocate.ensures.allocates heard stands) in Makes-map (λ calls step. allocating other none step) allocates
