use Rattle.std.proofs.Common.{◌≡◌, ◌+◌, true, false, List, take, drop, map, sym, subst, arith}
use Rattle.std.proofs.lemmas.Result.{err_from_is_err_and}
use Rattle.modem_routes.specs.Reaching.{StartsBy}
use Rattle.modem_routes.specs.Routes.{PumpWords, words_in}
use Rattle.many_runs.specs.Running.{StartsEach}
use Rattle.many_runs.proofs.Starts.{next_started, cut_short, pumps_next, pumps_cut}
use Rattle.many_runs.proofs.opening.start_all.Goals as goal

-- one couldn't be started
pub returns-in_err-start_more_pumps-clause-starts : goal.returns-in_err-start_more_pumps-clause-starts
returns-in_err-start_more_pumps-clause-starts g c =
    let pumps = c.args.pumps.now in
    let i = c.loop-node.node-index in
    let node = c.node-item.result in
    let By : List PumpWords → Type 0 = λ l. StartsBy (StartsEach l false) (g.P.Spawner.calls c.args.spawner.now) c.start_more_pumps.new.kids (g.P.Spawner.calls c.start_more_pumps.new.spawner) in
    let p = err_from_is_err_and c.from_residual.result c.from_residual.ensures.1 in
    let started = next_started (map words_in (take i pumps)) c.loop-node.invariant.started c.in_err-start_more_pumps.ensures.starts in
    rw p.1 (subst By (sym (pumps_cut pumps i node c.loop-node-test.true c.node-item.is)) (cut_short _ (map words_in (drop (i + 1) pumps)) started))

pub loop-node-preserved : goal.loop-node-preserved
loop-node-preserved g c =
    let pumps = c.args.pumps.now in
    let i = c.loop-node.node-index in
    let node = c.node-item.result in
    let By : List PumpWords → Type 0 = λ l. StartsBy (StartsEach l true) (g.P.Spawner.calls c.args.spawner.now) c.start_more_pumps.new.kids (g.P.Spawner.calls c.start_more_pumps.new.spawner) in
    record {
      started = subst By (sym (pumps_next pumps i node c.loop-node-test.true c.node-item.is)) (next_started (map words_in (take i pumps)) c.loop-node.invariant.started c.in_ok-start_more_pumps.ensures.starts);
      few = omega (arith, c.loop-node.invariant.few, c.in_ok-start_more_pumps.ensures.few);
      later = omega (arith, c.loop-node.invariant.later, c.in_ok-start_more_pumps.ensures.cause.later);
    }
