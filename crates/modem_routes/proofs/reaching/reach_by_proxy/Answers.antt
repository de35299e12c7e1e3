use Rattle.std.proofs.Common.{[]}
use Rattle.modem_routes.proofs.Coming.{came_in_time}
use Rattle.modem_routes.proofs.reaching.reach_by_proxy.Goals as goal

pub returns-clause-reaches : goal.returns-clause-reaches
returns-clause-reaches g c =
    came_in_time c.open_in_time.result c.in_default.ensures.calls c.open_in_time.ensures.opens c.in_default-start.ensures.calls (c.in_default-start.ensures.stands [] c.requires)
