use Rattle.table_requests.proofs.ReadBack.{are_read_back}
use Rattle.table_requests.proofs.laws.values_are_read_back.Goals as goal

pub returns : goal.returns
returns c = are_read_back
