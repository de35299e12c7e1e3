use Rattle.std.proofs.Common.{[], ◌++◌, refl}
use Rattle.kit_io.proofs.Growth.{Grows-append, Grows-none}
use Rattle.table_following.specs.Following.{visited, not_reached}
use Rattle.table_following.proofs.following.follow_on_route.Goals as goal

pub returns-in-Ok-clause-comes : goal.returns-in-Ok-clause-comes
returns-in-Ok-clause-comes g c =
    let route = c.in-Ok.ensures.reaches in
    let visit = c.visit.ensures.visits in
    record {
      on_link = route.on_link ++ visit.calls;
      taken = visit.taken;
      starts = route.starts;
      comes = visited route.on_link visit.calls route.are visit.visits refl;
      link_grows = Grows-append route.link_grows visit.link_grows;
      out_grows = visit.out_grows;
      spawner_grows = route.spawner_grows;
      stands = route.stands;
    }

pub returns-in-Err-clause-comes : goal.returns-in-Err-clause-comes
returns-in-Err-clause-comes g c =
    let route = c.in-Err.ensures.reaches in
    record {
      on_link = route.on_link;
      taken = [];
      starts = route.starts;
      comes = not_reached c.in-Err.fault route.are c.from.ensures refl;
      link_grows = route.link_grows;
      out_grows = Grows-none _;
      spawner_grows = route.spawner_grows;
      stands = route.stands;
    }
