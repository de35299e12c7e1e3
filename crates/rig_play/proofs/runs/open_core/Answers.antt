use Rattle.rig_play.proofs.Opened.{runs_opened}
use Rattle.rig_play.proofs.runs.open_core.Goals as goal

pub returns-clause-runs : goal.returns-clause-runs
returns-clause-runs g c =
    let p = g.P.Protocol in runs_opened p.kind p.proxy c.args.bench.now c.open.new.self c.kind.ensures g.met.P.Protocol.opens c.in_ok-open.ensures.keeps c.in_ok-open.ensures.runs
