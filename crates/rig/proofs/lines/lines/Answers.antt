use Rattle.rig_stage.proofs.Stopping.{also_on_err}
use Rattle.rig.proofs.Stopping.{all_run}
use Rattle.rig.proofs.lines.lines.Goals as goal

pub returns-in_err-outcome-clause-stops : goal.returns-in_err-outcome-clause-stops
returns-in_err-outcome-clause-stops g c = also_on_err c.from_residual.result c.in_err-outcome.ensures.stops

pub returns-clause-stops : goal.returns-clause-stops
returns-clause-stops g c =
    let p = g.P.Protocol in
    also_on_err c.write.result
    (all_run g.R.Reading.reading p.proxy p.kind c.args.clients (p.events c.args.clients c.args.turns c.args.number) (g.B.Bench.runs c.args.bench.now) (g.B.Bench.runs c.play.new.bench) c.in_ok-outcome.outcome c.in_ok-outcome.ensures.plays)
