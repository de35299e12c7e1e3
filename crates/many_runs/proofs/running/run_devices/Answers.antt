use Rattle.std.proofs.Common.{rules}
use Rattle.modem_routes.proofs.Stopping.{each_is_stopped}
use Rattle.many_runs.proofs.running.run_devices.Goals as goal

pub returns-clause-serves : goal.returns-clause-serves
returns-clause-serves g c =
    let kept = c.run_kept-end.ensures.serves in
    record {
      starts = kept.starts;
      serves = kept.are;
      children = each_is_stopped kept.grows kept.stands c.stop_all.ensures.stops c.is_ok-stopped.ensures.value (search rules);
    }
