use Rattle.sim_qmi.proofs.Replies.{answered}
use Rattle.sim_qmi.proofs.laws.each_request_is_answered.Goals as goal

pub returns : goal.returns
returns c = answered
