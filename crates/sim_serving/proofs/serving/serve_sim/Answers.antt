use Rattle.std.proofs.Common.{refl}
use Rattle.served_sim.specs.Conduct.{plain}
use Rattle.sim_serving.proofs.serving.serve_sim.Goals as goal

pub serve_so-requires : goal.serve_so-requires
serve_so-requires g c = (plain c.requires.0, record { same = refl; modem = c.requires.1 })

pub returns-clause-served : goal.returns-clause-served
returns-clause-served g c = λ answers kept. c.serve_so.ensures.served (plain answers) (record { same = refl; modem = kept })
