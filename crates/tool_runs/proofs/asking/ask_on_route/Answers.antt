use Rattle.std.proofs.Common.{◌++◌, refl}
use Rattle.kit_io.proofs.Growth.{Grows-append, Grows-none}
use Rattle.tool_runs.specs.Asking.{visited, not_reached}
use Rattle.tool_runs.proofs.asking.ask_on_route.Goals as goal

pub returns-in-Ok-clause-comes : goal.returns-in-Ok-clause-comes
returns-in-Ok-clause-comes g c =
    let route = c.in-Ok.ensures.reaches in
    let visit = c.visit.ensures.visits in
    record {
      on_link = route.on_link ++ visit.calls;
      starts = route.starts;
      are = visited route.on_link visit.calls visit.result route.are visit.exchange refl visit.says;
      link_grows = Grows-append route.link_grows visit.grows;
      spawner_grows = route.spawner_grows;
      stands = route.stands;
    }

pub returns-in-Err-clause-comes : goal.returns-in-Err-clause-comes
returns-in-Err-clause-comes g c =
    let route = c.in-Err.ensures.reaches in
    record {
      on_link = route.on_link;
      starts = route.starts;
      are = not_reached c.in-Err.fault route.are c.from.ensures (Grows-none _);
      link_grows = route.link_grows;
      spawner_grows = route.spawner_grows;
      stands = route.stands;
    }
