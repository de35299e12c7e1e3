use Rattle.std.proofs.Common.{Bool, ◌∙◌, ap, sym, rules}
use Rattle.modem_routes.proofs.Stopping.{each_is_stopped}
use Rattle.tool_runs.specs.Asking.{with_stops}
use Rattle.tool_runs.proofs.Ends.{start_fault_comes}
use Rattle.table_following.proofs.following.follow_modem.Goals as goal

pub returns-clause-follows : goal.returns-clause-follows
returns-clause-follows g c =
    let came = c.follow_on_route-end.ensures.comes in
    record {
      on_link = came.on_link;
      taken = came.taken;
      starts = came.starts;
      ends = c.follow_on_route-end.result;
      comes = came.comes;
      link_grows = came.link_grows;
      out_grows = came.out_grows;
      stopped = c.is_ok-stopped.result;
      children = each_is_stopped came.spawner_grows came.stands c.stop_all.ensures.stops c.is_ok-stopped.ensures.value (search rules);
      is = c.with_stops.ensures;
    }

pub returns-clause-start_fault : goal.returns-clause-start_fault
returns-clause-start_fault g c = λ e.
    let route = c.follow_on_route-end in
    let ends = ap (λ (stopped : Bool). with_stops stopped route.result) (sym c.is_ok-stopped.ensures.value) ∙ sym c.with_stops.ensures ∙ e in
    start_fault_comes c.stop_all.result route.result route.ensures.later_starts route.ensures.start_fault c.stop_all.ensures.cause ends
