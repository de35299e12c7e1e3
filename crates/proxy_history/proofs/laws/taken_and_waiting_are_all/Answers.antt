use Rattle.proxy_history.proofs.Rendering.{taken_and_waiting, split_by_count}
use Rattle.proxy_history.proofs.laws.taken_and_waiting_are_all.Goals as goal

pub returns : goal.returns
returns c = record { all = taken_and_waiting; split = split_by_count }
