use Rattle.std.proofs.Common.{Bool, ◌∙◌, ap, sym, rules}
use Rattle.modem_routes.proofs.Stopping.{each_is_stopped}
use Rattle.program.specs.Status.{with_stops}
use Rattle.program.proofs.Ends.{start_fault_comes}
use Rattle.program.proofs.proxy.serve_device.Goals as goal

pub returns-clause-serves : goal.returns-clause-serves
returns-clause-serves g c =
    let kept = c.serve_kept-end.ensures.serves in
    record {
      starts = kept.starts;
      ends = c.serve_kept-end.result;
      serves = kept.are;
      stopped = c.is_ok-stopped.result;
      children = each_is_stopped kept.grows kept.stands c.stop_all.ensures.stops c.is_ok-stopped.ensures.value (search rules);
      is = c.with_stops.ensures;
    }

pub returns-clause-start_fault : goal.returns-clause-start_fault
returns-clause-start_fault g c = λ e.
    let kept = c.serve_kept-end in
    let ends = ap (λ (stopped : Bool). with_stops stopped kept.result) (sym c.is_ok-stopped.ensures.value) ∙ sym c.with_stops.ensures ∙ e in
    start_fault_comes c.stop_all.result kept.result kept.ensures.later_starts kept.ensures.start_fault c.stop_all.ensures.cause ends
