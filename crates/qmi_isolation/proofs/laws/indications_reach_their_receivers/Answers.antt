use Rattle.qmi_isolation.proofs.Answers.{indications_reach_their_receivers, holders_alone_are_told}
use Rattle.qmi_isolation.proofs.laws.indications_reach_their_receivers.Goals as goal

pub returns : goal.returns
returns c = record { receivers = indications_reach_their_receivers; holders = holders_alone_are_told }
