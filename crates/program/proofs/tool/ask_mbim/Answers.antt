use Rattle.program.proofs.Forms.{mbim-in_form}
use Rattle.program.proofs.tool.ask_mbim.Goals as goal

-- its answer is printed in the form that the words want
pub returns-clause-asks : goal.returns-clause-asks
returns-clause-asks g c = rw (← mbim-in_form _ _) (rw c.mbim_decoding.ensures at c.ask_in_form-status.ensures.asks)
