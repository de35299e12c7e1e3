use Rattle.transparency.specs.QmiTwice.{AreShort}
use Rattle.relays.specs.TunnelRuns.{tunnel_run}
use Rattle.transparency.proofs.CarriedAlike.{same_printed, unproxied}
use Rattle.transparency.proofs.carried.qmi_tunnelled.Goals as goal

pub returns-clause-direct : goal.returns-clause-direct
returns-clause-direct c = c.in_ok-direct.ensures.held.prints

pub returns-clause-through : goal.returns-clause-through
returns-clause-through c = unproxied c.args.plan.now (tunnel_run c.args.profile.now c.args.plan.now).end c.in_ok-through.through.printed c.in_ok-through.ensures.prints

pub returns-clause-alike : goal.returns-clause-alike
returns-clause-alike c = λ told printed prints.
    let short : AreShort c.args.plan.now = record { inputs = c.in_ok-have_room.ensures.inputs; device = c.in_ok-have_room.ensures.device } in
    same_printed c.args.profile.now c.args.plan.now printed c.in_ok-through.through.printed c.in_ok-direct.ensures.limits short told prints (returns-clause-through c)

pub returns-clause-same : goal.returns-clause-same
returns-clause-same c = λ told. returns-clause-alike c told c.in_ok-direct.direct.printed (returns-clause-direct c)
