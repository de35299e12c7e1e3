use Rattle.std.proofs.Common.{List, ℕ, ◌≡◌, ◌∙◌, sym, ap, subst}
use Rattle.std.specs.Str.{encode_utf8_all}
use Rattle.many_runs.specs.Running.{Asked, ServesMany}
use Rattle.program.specs.Several.{several_asked}
use Rattle.program.specs.Status.{IsOfProxy, with_stops}
use Rattle.program.specs.declared.status.Status.{Status}
use Rattle.program.proofs.Several.{is_of_proxy, hub_fault_is, start_fault_is}
use Rattle.program.proofs.proxies.proxy_modems.Goals as goal

pub returns-clause-serves : goal.returns-clause-serves
returns-clause-serves g c =
    let task = c.args.task.now in
    let Serves : List ℕ → List ℕ → Asked → Type 0 =
    λ socket bridge asked. ServesMany socket bridge asked (g.M.ManyHub.calls c.args.many.now) (g.P.Spawner.calls c.args.spawner.now) c.run_many-run.result (g.M.ManyHub.calls c.run_many-run.new.many) (g.M.ManyHub.made c.run_many-run.new.many) (g.P.Spawner.calls c.run_many-run.new.spawner)
    in
    let socket : c.as_str.result.now ≡ encode_utf8_all task.socket = c.as_str.ensures ∙ ap encode_utf8_all c.value.ensures.same in
    let bridge : c.as_str-2.result.now ≡ encode_utf8_all task.bridge = c.as_str-2.ensures ∙ ap encode_utf8_all c.value-2.ensures.same in
    let given : Asked = record (several_asked task) { devices = c.as_slice.result.now } in
    let asked : given ≡ several_asked task = ap (λ (l : List (List ℕ)). let asked : Asked = record (several_asked task) { devices = l } in asked) c.as_slice.ensures.same in
    record {
      run = c.run_many-run.result;
      serves = subst (λ (a : Asked). Serves (encode_utf8_all task.socket) (encode_utf8_all task.bridge) a) asked
          (subst (λ (l : List ℕ). Serves (encode_utf8_all task.socket) l given) bridge (subst (λ (l : List ℕ). Serves l c.as_str-2.result.now given) socket c.run_many-run.ensures.serves));
      is = c.with_stops.ensures ∙ ap (λ (s : Status). with_stops c.run_many-run.result.stopped s) c.from.ensures;
    }

pub returns-clause-own : goal.returns-clause-own
returns-clause-own g c = subst IsOfProxy (sym (c.with_stops.ensures ∙ ap (λ (s : Status). with_stops c.run_many-run.result.stopped s) c.from.ensures)) (is_of_proxy c.run_many-run.result.stopped c.run_many-run.result.end)

pub returns-clause-hub_fault : goal.returns-clause-hub_fault
returns-clause-hub_fault g c = λ e. c.run_many-run.ensures.hub_fault (hub_fault_is c.run_many-run.result.stopped c.run_many-run.result.end (sym (c.with_stops.ensures ∙ ap (λ (s : Status). with_stops c.run_many-run.result.stopped s) c.from.ensures) ∙ e))

pub returns-clause-start_fault : goal.returns-clause-start_fault
returns-clause-start_fault g c = λ e. c.run_many-run.ensures.start_fault (start_fault_is c.run_many-run.result.stopped c.run_many-run.result.end (sym (c.with_stops.ensures ∙ ap (λ (s : Status). with_stops c.run_many-run.result.stopped s) c.from.ensures) ∙ e))
