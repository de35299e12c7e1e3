use Rattle.std.proofs.Common.{◌+◌, None, Ok, ap}
use Rattle.link_session.proofs.Steps.{Step-unread}
use Rattle.tunnel_session.specs.declared.ends.TunnelEnd.{TunnelEnd}
use Rattle.tunnel_session.specs.Session.{Closes, end_with}
use Rattle.tunnel_session.proofs.Steps.{Carries-goes, Carries-refused}
use Rattle.tunnel_session.proofs.session.release.Goals as goal

pub returns-in-Err-clause-releases : goal.returns-in-Err-clause-releases
returns-in-Err-clause-releases g c = λ heard stands.
    Step-unread (rw c.service_of.ensures at (c.in-Err.ensures.asks heard stands))

pub returns-in-Message-clause-releases : goal.returns-in-Message-clause-releases
returns-in-Message-clause-releases g c = λ heard stands.
    let replies = rw c.service_of.ensures at (c.in-Ok.ensures.asks heard stands) in
    Carries-goes _ _ _ (λ result message later more. Closes (end_with c.args.answer None) (c.args.number + 1) c.args.plan.now.timeout later more result) replies c.close_with.result _ c.in-Message.is (rw c.ended.ensures at (c.close_with.ensures.closes replies.later replies.says.2))

pub returns-clause-releases : goal.returns-clause-releases
returns-clause-releases g c = λ heard stands.
    let replies = rw c.service_of.ensures at (c.in-Ok.ensures.asks heard stands) in
    Carries-refused _ _ _ (λ result message later more. Closes (end_with c.args.answer None) (c.args.number + 1) c.args.plan.now.timeout later more result) replies _ c.in-Refused.is (ap (λ (e : TunnelEnd). Ok e) c.in-Refused.end-is)
