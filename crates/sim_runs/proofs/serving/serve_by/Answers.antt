use Rattle.modem_rules.specs.Rules.{rules_view}
use Rattle.ruled_modem.specs.Ruled.{conduct_by}
use Rattle.sim_runs.proofs.serving.serve_by.Goals as goal

-- a modem that goes by rules was served
pub returns-in-Ok-clause-serves : goal.returns-in-Ok-clause-serves
returns-in-Ok-clause-serves g c = λ answers kept.
    rw c.in-Some.is (c.serve_so_at.ensures.serves (conduct_by c.args.kind (rules_view c.in-Some.rules) answers) (c.in-Ok.ensures answers kept))
