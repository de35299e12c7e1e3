use Rattle.std.proofs.Common.{sym, subst}
use Rattle.rig_stage.proofs.Stopping.{also_on_err}
use Rattle.rig.specs.Stopping.{StopsRig}
use Rattle.rig.proofs.Stopping.{none_runs}
use Rattle.rig.proofs.playing.play.Goals as goal

pub returns-in_err-take-clause-stops : goal.returns-in_err-take-clause-stops
returns-in_err-take-clause-stops g c =
    let p = g.P.Protocol in
    let old = g.B.Bench.runs c.args.bench.now in
    let Stopped : g.row.B.Denot → Type 0 = λ bench. StopsRig g.R.Reading.reading p.proxy p.kind c.args.clients (p.events c.args.clients c.args.turns c.args.number) old (g.B.Bench.runs bench) in
    also_on_err c.from_residual.result (subst Stopped (sym c.in_err-take.ensures.err) (none_runs g.R.Reading.reading p.proxy p.kind c.args.clients (p.events c.args.clients c.args.turns c.args.number) old))
