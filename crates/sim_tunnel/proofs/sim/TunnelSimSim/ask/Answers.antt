use Rattle.std.proofs.Common.{arith}
use Rattle.std.proofs.lemmas.Bool.Decides.{nat_tests}
use Rattle.sim_tunnel.proofs.Hearing.{keeps-more, answers-by}
use Rattle.sim_tunnel.proofs.sim.TunnelSimSim.ask.Goals as goal

pub hear-requires : goal.hear-requires
hear-requires c = grind (arith, nat_tests, c.requires)

pub returns-clause-keeps : goal.returns-clause-keeps
returns-clause-keeps c = λ answers past kept. keeps-more answers past c.args.message.now c.args.self.now kept c.hear.new.self c.in_ok-hear.ensures.state

pub returns-clause-answers : goal.returns-clause-answers
returns-clause-answers c = λ answers past kept. answers-by answers past c.args.message.now c.args.self.now kept c.in_ok-hear.field-0 c.in_ok-hear.ensures.text
