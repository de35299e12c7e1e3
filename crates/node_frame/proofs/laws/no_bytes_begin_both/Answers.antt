use Rattle.node_frame.proofs.Told.{bad_in_qmux}
use Rattle.node_frame.proofs.laws.no_bytes_begin_both.Goals as goal

pub returns : goal.returns
returns c = bad_in_qmux
