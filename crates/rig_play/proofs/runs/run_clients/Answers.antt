use Rattle.std.proofs.Common.{[], sym, subst, inl, inr}
use Rattle.rig_stage.specs.Running.{AreRecorded, Runs, IsCutShort}
use Rattle.rig_stage.proofs.Acting.{on_ok}
use Rattle.rig_stage.proofs.Stopping.{on_err, also_on_err}
use Rattle.rig_play.specs.Runs.{run_of}
use Rattle.rig_play.proofs.runs.run_clients.Goals as goal

pub returns-clause-runs : goal.returns-clause-runs
returns-clause-runs g c =
    let p = g.P.Protocol in
    on_ok c.play_all.result
    (λ runs. λ earlier told.
    subst (λ events. Runs g.B.Bench.keeps g.B.Bench.runs p.proxy (run_of p.kind []) earlier events c.play_all.new.bench) (g.met.P.Protocol.draws c.args.clients c.args.turns c.args.number)
    (runs (run_of p.kind []) earlier (c.in_ok-open_core.ensures.runs earlier told)))
    c.play_all.ensures.runs

pub returns-in_err-open_core-clause-stops : goal.returns-in_err-open_core-clause-stops
returns-in_err-open_core-clause-stops g c = also_on_err c.from_residual.result (λ earlier told. inl (subst (λ bench. AreRecorded (g.B.Bench.runs bench) earlier) (sym c.in_err-open_core.ensures.err) told))

pub returns-clause-stops : goal.returns-clause-stops
returns-clause-stops g c =
    let p = g.P.Protocol in
    on_err c.play_all.result
    (λ stops. λ earlier told.
    inr (subst (λ events. IsCutShort (run_of p.kind []) earlier events (g.B.Bench.runs c.play_all.new.bench)) (g.met.P.Protocol.draws c.args.clients c.args.turns c.args.number)
    (stops (run_of p.kind []) earlier (c.in_ok-open_core.ensures.runs earlier told))))
    c.play_all.ensures.stops
