use Rattle.std.proofs.Common.{[]}
use Rattle.core_bench.specs.Runs.{proxy_for}
use Rattle.transparency.specs.Peers.{opened}
use Rattle.transparency.proofs.OnBench.{told_opened}
use Rattle.transparency.proofs.relaying.begin.Goals as goal

pub returns-clause-runs : goal.returns-clause-runs
returns-clause-runs g c = λ earlier told.
    let start = opened c.args.kind c.args.device.now in
    c.meet.ensures.met.runs (proxy_for c.args.kind start.limits c.args.device.now) start earlier []
    (record { kept = c.in_ok-open.ensures.keeps; told = told_opened start earlier (g.B.Bench.runs c.args.bench.now) (g.B.Bench.runs c.open.new.self) c.in_ok-open.ensures.runs told })
