use Rattle.sim_qmi.proofs.Distinct.{distinct}
use Rattle.sim_qmi.proofs.laws.no_id_is_given_twice.Goals as goal

pub returns : goal.returns
returns c = distinct
