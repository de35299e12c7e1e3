use Rattle.std.proofs.Common.{refl}
use Rattle.modem_rules.specs.Rules.{rules_view}
use Rattle.ruled_modem.proofs.Keeping.{keeps-fresh}
use Rattle.ruled_modem.proofs.ruled.Ruled.open.Goals as goal

pub returns : goal.returns
returns g c = λ answers kept. keeps-fresh g.S.Sim.keeps (rules_view c.args.rules) answers _ kept c.new.ensures c.in_ok-answers.ensures.table c.in_ok-faults.ensures.table c.in_ok-indications.ensures.table c.in_ok-indications.ensures.others refl
