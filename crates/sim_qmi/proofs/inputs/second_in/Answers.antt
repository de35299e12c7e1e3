use Rattle.std.proofs.Common.{arith}
use Rattle.sim_qmi.proofs.Pairs.{second_is, second_is_none}
use Rattle.sim_qmi.proofs.inputs.second_in.Goals as goal

pub returns-then-fields-ne2 : goal.returns-then-fields-ne2
returns-then-fields-ne2 c = second_is_none _ _ c.as_slice-fields.result.now c.in_ok-as_seq.ensures c.as_slice-fields.ensures (λ two. omega arith)

pub returns : goal.returns
returns c = second_is _ _ c.as_slice-fields.result.now c.index-fields-1.result c.in_ok-as_seq.ensures c.as_slice-fields.ensures (omega arith) c.index-fields-1.is
