use Rattle.program.proofs.Forms.{inside-in_form, itself-in_form}
use Rattle.program.proofs.tool.ask_of_kind.Goals as goal

-- the modem is asked itself, or inside another
pub returns-in-Qmi-clause-asks : goal.returns-in-Qmi-clause-asks
returns-in-Qmi-clause-asks g c = rw (c.in-Qmi.is, ← itself-in_form _ _) (rw c.in-Qmi.is at c.ask_in_form-status.ensures.asks)

pub returns-in-Mbim-clause-asks : goal.returns-in-Mbim-clause-asks
returns-in-Mbim-clause-asks g c = rw (c.in-Mbim.is, ← inside-in_form _ _) (rw c.in-Mbim.is at c.ask_in_form-status-in-Mbim.ensures.asks)
