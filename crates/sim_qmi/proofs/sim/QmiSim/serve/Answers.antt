use Rattle.qmi_services.specs.View.{row_view}
use Rattle.sim_qmi.specs.View.{answer_view}
use Rattle.sim_qmi.proofs.Writing.{answer_fits}
use Rattle.sim_qmi.proofs.sim.QmiSim.serve.Goals as goal

pub response-requires : goal.response-requires
response-requires c =
    answer_fits c.args.self.now.profile c.args.self.now.state c.args.request (row_view c.args.message.now) (answer_view c.in_ok-answer.answer) c.requires.within c.requires.sound c.requires.range c.requires.row c.in_ok-answer.ensures.answer
